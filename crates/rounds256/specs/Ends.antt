-- The two new words of a round, from d, T1 and T2.
use Rattle.rules.specs.Supply.{Draw, Sharing}
use Rattle.rules.specs.Convert.{Adder}

-- T1 + T2 and d + T1; the latter is drawn for first
unfoldable pub ends : Adder → Sharing → Sharing → Sharing → Draw (Sharing × Sharing)
ends add d T1 T2 ws at =
    let u = add d T1 ws at in
    let t = add T1 T2 ws u.1 in
    ((t.0, u.0), t.1)

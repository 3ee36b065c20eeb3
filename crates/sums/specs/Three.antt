-- Three additions, one after the other.
use Rattle.rules.specs.Supply.{Draw, Sharing}
use Rattle.rules.specs.Convert.{Adder}

-- t + a, + b, + c
unfoldable pub three : Adder → Sharing → Sharing → Sharing → Sharing → Draw Sharing
three add t a b c ws at =
    let x = add t a ws at in
    let y = add x.0 b ws x.1 in
    add y.0 c ws y.1

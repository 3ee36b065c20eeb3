-- Rules that draw, put together: what a composite draws, that no other word has a say, and what it makes, from the
-- same facts of its parts.
use Prim.Native.Nat.{ℕ, zero, suc, ◌+◌}
use mathlib.Core.Path.{◌≡◌, refl, sym, ap, ◌∙◌, subst}
use mathlib.Core.List.{List, [], ◌∷◌}
use native.Mathlib.Nat.{add-zero}
use native.Mathlib.Omega.{arith}
use lib.ListN.{length, get_or}
use Rattle.rules.specs.Supply.{Place, Supply, Sharing, Draw, Rule, next}
use Rattle.rules.specs.Shares.{Step, pass}

-- nothing is drawn
pub give : {S : Type 0} (P : S → Type 0) (s : S) → P s → Rule 0 P (λ ws at. (s, at))
give P s p = record { place = λ ws at. omega arith; same = λ ws vs at to h. refl; makes = λ ws at. p }

-- the next word
pub next_word : Rule 1 (λ s. Unit {0}) (λ ws at. (get_or ws at 0, at + 1))
next_word =
    record {
      place = λ ws at. refl;
      same = λ ws vs at to h. rw (add-zero at, add-zero to) at (h 0 (omega arith));
      makes = λ ws at. tt;
    }

-- one rule, then another on what it made
pub bind : {S R : Type 0} {d e : ℕ} {P : S → Type 0} {Q : R → Type 0} {r : Draw S} {s : S → Draw R}
    → Rule d P r
    → ((z : S) → P z → Rule e Q (s z))
    → Rule (d + e) Q (λ ws at. s (r ws at).0 ws (r ws at).1)
bind {d = d} {r = r} {s = s} a b =
    record {
      place = λ ws at. (b (r ws at).0 (a.makes ws at)).place ws (r ws at).1 ∙ omega (arith, a.place ws at);
      same = λ ws vs at to h.
          (b (r ws at).0 (a.makes ws at)).same ws vs (r ws at).1 (r vs to).1
          (λ i u. later ws at i ∙ h (d + i) (omega arith) ∙ sym (later vs to i))
          ∙ ap (λ t. (s t vs (r vs to).1).0) (a.same ws vs at to (λ i u. h i (omega arith)));
      makes = λ ws at. (b (r ws at).0 (a.makes ws at)).makes ws (r ws at).1;
    }
  where
    later : (ws : Supply) (at i : Place) → get_or ws ((r ws at).1 + i) 0 ≡ get_or ws (at + (d + i)) 0
    later ws at i = ap (λ t. get_or ws t 0) (omega (arith, a.place ws at))

-- the same rule, its count or what it makes said otherwise
pub said : {S : Type 0} {d e : ℕ} {P Q : S → Type 0} {r : Draw S}
    → Rule d P r → d ≡ e → ((z : S) → P z → Q z) → Rule e Q r
said {r = r} a n f =
    record {
      place = λ ws at. a.place ws at ∙ ap (λ m. at + m) n;
      same = λ ws vs at to h. a.same ws vs at to (λ i u. h i (omega arith));
      makes = λ ws at. f (r ws at).0 (a.makes ws at);
    }

pub counted : {S : Type 0} {d e : ℕ} {P : S → Type 0} {r : Draw S} → Rule d P r → d ≡ e → Rule e P r
counted a n = said a n (λ z p. p)

-- one draw for each pair: P says what holds with the pairs that are left
pub pass_rule : (step : Step) (P : List (Place × Place) → Sharing → Type 0)
    → ((p : Place × Place) (ps : List (Place × Place)) (s : ℕ) (z : Sharing)
    → P (p ∷ ps) z → P ps (step p.0 p.1 s z))
    → (ps : List (Place × Place)) (z : Sharing) → P ps z → Rule (length ps) (P []) (pass step ps z)
unfolding pass
pass_rule step P one [] z h = give (P []) z h
pass_rule step P one (p ∷ ps) z h =
    counted (bind next_word (λ s u. pass_rule step P one ps (step p.0 p.1 s z) (one p ps s z h))) (omega arith)

-- the next m words
pub next_rule : (m : ℕ) → Rule m (λ z. length z ≡ m) (next m)
unfolding next
next_rule zero = give (λ z. length z ≡ 0) [] refl
next_rule (suc m) =
    counted
    (bind next_word (λ s u.
    bind (next_rule m) (λ z e. give (λ y. length y ≡ suc m) (s ∷ z) (ap suc e))))
    (omega arith)

-- a rule that is another at every supply
pub alike : {S : Type 0} {d : ℕ} {P : S → Type 0} {r s : Draw S}
    → ((ws : Supply) (at : Place) → r ws at ≡ s ws at) → Rule d P s → Rule d P r
alike {S = S} {P = P} {r = r} {s = s} e a =
    record {
      place = λ ws at. ap (λ (t : S × ℕ). t.1) (e ws at) ∙ a.place ws at;
      same = λ ws vs at to h.
          ap (λ (t : S × ℕ). t.0) (e ws at) ∙ a.same ws vs at to h ∙ sym (ap (λ (t : S × ℕ). t.0) (e vs to));
      makes = λ ws at. subst (λ (t : S × ℕ). P t.0) (sym (e ws at)) (a.makes ws at);
    }

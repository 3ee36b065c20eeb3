-- A record filled from its front: what stands in it so far, and the steps that are left, are the whole record.
use mathlib.Core.Path.{◌≡◌, ap, ◌∙◌}
use mathlib.Core.List.{List, ◌∷◌, ◌++◌, append-nil}
use Prim.Native.Nat.{ℕ, suc, ◌+◌, ◌-◌, ◌*◌, ◌≤◌, ◌<◌}
use native.Mathlib.Omega.{arith}
use lib.Bits.{bit_xor}
use lib.ListN.{length, get_or, take, set, drop_of_length-le}
use lib.Seq.{sets, sets-eq, set_split}
use Rattle.words.proofs.Stores.{take_sets}
use Rattle.rules.specs.Goubin.{b2a_record, a2b_start, a2b_round, a2b_rounds, a2b_record}
use Rattle.rules.specs.Calls.{b2a_record_call}
use Rattle.rules.proofs.Calls.{recorded}
use Rattle.rules.proofs.Ends.{b2a_length, rounds_front}

-- all steps of Boolean to arithmetic at once
pub b2a_stored : (k x r g : ℕ) (came after steps : List ℕ) → length came ≡ 7
    → steps ≡ b2a_record k x r g
    → after ≡ sets came 0 steps
    → b2a_record_call k x r g came ≡ (0, after)
b2a_stored k x r g came after steps h e p =
    let l : length steps ≡ 7 = ap length e ∙ b2a_length k x r g in
    recorded 7 (b2a_record k x r g) came after h
    (p
    ∙ sets-eq steps came 0 (omega arith)
    ∙ ap (λ s. steps ++ s) (drop_of_length-le came {i = 0 + length steps} (omega arith))
    ∙ append-nil steps
    ∙ e)

module _ (k a r : ℕ) where
  -- the start of arithmetic to Boolean, with all turns behind it
  pub start_stored : (g : ℕ) (came after start rec : List ℕ) → length came ≡ 10 + 5 * (k - 1)
      → start ≡ a2b_start k a r g
      → after ≡ sets came 0 start
      → rec ≡ take 9 after ++ a2b_rounds k a r (get_or start 8 0) (get_or start 3 0) (k - 1) (get_or start 0 0)
      → rec ≡ a2b_record k a r g
  unfolding a2b_start a2b_record
  start_stored g came after start rec h e p q = q ∙ rw (p, e, take_sets came (a2b_start k a r g) 0 (omega arith))

  -- turn i is stored behind those before it
  pub turn_stored : (o x t u i : ℕ) (entries after rec : List ℕ) → i < k - 1 → length entries ≡ 5 * k + 5
      → u ≡ get_or (a2b_round k a r o t) 4 0
      → after ≡ sets entries (9 + 5 * i) (a2b_round k a r o t)
      → take (9 + 5 * i) entries ++ a2b_rounds k a r o x (k - 1 - i) t ≡ rec
      → take (9 + 5 * (i + 1)) after ++ a2b_rounds k a r o x (k - 1 - (i + 1)) u ≡ rec
  unfolding a2b_round
  turn_stored o x t u i entries after rec l h v p inv =
      let more : 9 + 5 * (i + 1) ≡ 9 + 5 * i + 5 = omega arith in
      rw (more, p, v, take_sets entries (a2b_round k a r o t) (9 + 5 * i) (omega arith))
      (rounds_front k a r o x (k - 1 - i) (k - 1 - (i + 1)) t (take (9 + 5 * i) entries) rec (omega arith) inv)

  -- the last step is stored after all turns
  pub last_stored : (o x t start i : ℕ) (entries front : List ℕ)
      → i ≤ k - 1 → k - 1 ≤ i → length entries ≡ 10 + 5 * (k - 1)
      → take (9 + 5 * i) entries ++ a2b_rounds k a r o x (k - 1 - i) t ≡ front ++ a2b_rounds k a r o x (k - 1) start
      → set entries (9 + 5 * (k - 1)) (bit_xor x t) ≡ front ++ a2b_rounds k a r o x (k - 1) start
  unfolding a2b_rounds
  last_stored o x t start i entries front l m h inv =
      let last = 9 + 5 * (k - 1) in
      let none : k - 1 - i ≡ 0 = omega arith in
      let all : i ≡ k - 1 = omega arith in
      set_split entries last (bit_xor x t) (omega arith)
      ∙ ap (λ s. take last entries ++ (bit_xor x t ∷ s)) (drop_of_length-le entries {i = suc last} (omega arith))
      ∙ rw (none, all) at inv

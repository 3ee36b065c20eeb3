-- Addition opens to the sum modulo 2^k; expand and splitting keep the secret.
use Prim.Native.Nat.{ℕ, zero, suc, ◌-◌, ◌*◌, ◌^◌, ◌<◌}
use mathlib.Core.Path.{◌≡◌, refl, sym, ap, ap₂, ◌∙◌}
use mathlib.Core.List.{List, [], ◌∷◌, ◌++◌}
use native.Mathlib.Nat.{suc-mul, add_comm}
use native.Mathlib.Omega.{arith}
use lib.Bits.{bit_xor, bit_and, xor_zero_r}
use lib.ListN.{length, replicate, length-replicate, length-append}
use Rattle.words.specs.Word.{plus}
use Rattle.words.proofs.Bits.{bits, v, ◌⊕◌}
use Rattle.words.proofs.Carry.{carry, carry_sum}
use Rattle.rules.specs.Supply.{Rule, Shares, opened, split}
use Rattle.rules.specs.Shares.{each, double_xor, carries, add, expand}
use Rattle.rules.specs.Counts.{and_draws, add_draws}
use Rattle.rules.proofs.Rule.{give, next_word, bind, said, counted, next_rule}
use Rattle.rules.proofs.Openings.{opened_append, opened_zeros, length_each, xor_opens, double_xor_opens}
use Rattle.rules.proofs.Pairs.{and_rule}

-- the rounds open to the carry loop's word
carries_rule : (k n s t : ℕ) (a w : List ℕ) → Shares n s a → Shares n t w
    → (m c : ℕ) (u : List ℕ) → Shares n c u
    → Rule (m * and_draws n) (Shares n (carry k s t m c)) (carries k a w m u)
unfolding carries carry
carries_rule k n s t a w ha hw zero c u hu = counted (give (Shares n c) u hu) (omega arith)
carries_rule k n s t a w ha hw (suc m) c u hu =
    counted
    (bind (and_rule n u a hu.0 ha.0) (λ z p.
    let l : length w ≡ length z = hw.0 ∙ sym p.0 in
    carries_rule k n s t a w ha hw m (double_xor k (bit_and c s) t) (each (double_xor k) z w) (
      length_each (double_xor k) z w l ∙ p.0,
      double_xor_opens k z w l ∙ rw (p.1, hu.1, ha.1, hw.1),
    )))
    (sym (suc-mul m (and_draws n) ∙ add_comm (m * and_draws n) (and_draws n)))

-- addition opens to what the carry loop gives, whatever the shares open to
pub add_loop_rule : (k n : ℕ) (x y : List ℕ) → 0 < k → length x ≡ n → length y ≡ n
    → (let A = bit_xor (opened x) (opened y) in
    let W = bit_and (opened x) (opened y) in
    Rule (add_draws k n) (Shares n (bit_xor A (carry k A W (k - 1) 0))) (add k x y))
unfolding add
add_loop_rule k n x y hk lx ly =
    let same : length y ≡ length x = ly ∙ sym lx in
    let a = each bit_xor x y in
    let A = bit_xor (opened x) (opened y) in
    let W = bit_and (opened x) (opened y) in
    let la : length a ≡ n = length_each bit_xor x y same ∙ lx in
    let zeros : List ℕ = replicate (length x) 0 in
    let none : Shares n 0 zeros = (length-replicate (length x) 0 ∙ lx, opened_zeros (length x)) in
    let more : k ≡ suc (k - 1) = omega arith in
    counted
    (bind (and_rule n x y lx ly) (λ w p.
    bind (carries_rule k n A W a w (la, xor_opens x y same) p (k - 1) 0 zeros none) (λ u q.
    let l : length u ≡ length a = q.0 ∙ sym la in
    give (Shares n (bit_xor A (carry k A W (k - 1) 0))) (each bit_xor a u) (
      length_each bit_xor a u l ∙ la,
      xor_opens a u l ∙ ap₂ bit_xor (xor_opens x y same) q.1,
    ))))
    (sym (ap (λ m. m * and_draws n) more ∙ suc-mul (k - 1) (and_draws n) ∙ omega arith))

-- which is the sum modulo 2^k of two words of k bits
pub add_rule : (k n : ℕ) (x y : List ℕ) → 0 < k → length x ≡ n → length y ≡ n
    → opened x < 2 ^ k → opened y < 2 ^ k
    → Rule (add_draws k n) (Shares n (plus k (opened x) (opened y))) (add k x y)
add_rule k n x y hk lx ly hx hy =
    said (add_loop_rule k n x y hk lx ly) refl
    (λ z g. (g.0, g.1 ∙ carry_sum k (opened x) (opened y) hx hy))

pub expand_rule : (n : ℕ) (x : List ℕ) → length x ≡ n → Rule n (Shares (n * 2) (opened x)) (expand x)
unfolding expand opened
expand_rule n [] h = rw (sym h) (give (Shares 0 0) [] (refl, refl))
expand_rule n (a ∷ x) h =
    counted
    (bind next_word (λ s u.
    bind (expand_rule (length x) x refl) (λ z p.
    give (Shares (n * 2) (bit_xor a (opened x))) (bit_xor a s ∷ s ∷ z) (
      omega arith,
      bits (a ∷ s ∷ opened z ∷ []) (v 0 ⊕ v 1 ⊕ (v 1 ⊕ v 2)) (v 0 ⊕ v 2) tt ∙ ap (bit_xor a) p.1,
    ))))
    (omega arith)

pub split_rule : (n value : ℕ) → 0 < n → Rule (n - 1) (Shares n value) (split n value)
unfolding split opened
split_rule n value h =
    counted
    (bind (next_rule (n - 1)) (λ m e.
    let last = bit_xor value (opened m) in
    give (Shares n value) (m ++ (last ∷ [])) (
      length-append m (last ∷ []) ∙ omega arith,
      opened_append m (last ∷ [])
          ∙ ap (bit_xor (opened m)) (xor_zero_r last)
          ∙ bits (opened m ∷ value ∷ []) (v 0 ⊕ (v 1 ⊕ v 0)) (v 1) tt,
    )))
    (omega arith)

-- The records' lengths, and what they end in, whatever the fresh word is: x − r after 7 entries, x ⊕ r after 5k + 5.
use mathlib.Core.Path.{◌≡◌, refl, sym, ap, ◌∙◌}
use mathlib.Core.List.{List, [], ◌∷◌, ◌++◌, append_assoc}
use Prim.Native.Nat.{ℕ, zero, suc, ◌+◌, ◌-◌, ◌*◌, ◌^◌, ◌<◌}
use native.Mathlib.Omega.{arith}
use lib.Bits.{bit_xor, bit_and, xor_zero_r}
use lib.ListN.{length, get_or}
use Rattle.words.specs.Word.{plus, minus, double}
use Rattle.words.proofs.Bits.{bits, v, ◌⊕◌, ◌⊗◌}
use Rattle.words.proofs.Words.{shift_xor}
use Rattle.words.proofs.Carry.{out, carry, carry_sum}
use Rattle.rules.specs.Goubin.{psi, b2a_record, a2b_start, a2b_round, a2b_rounds, a2b_record}
use Rattle.rules.proofs.Affine.{psi_affine}

-- ---- Boolean to arithmetic
pub b2a_length : (k x r g : ℕ) → length (b2a_record k x r g) ≡ 7
unfolding b2a_record
b2a_length k x r g = refl

pub b2a_ends : (k x r g : ℕ) → x < 2 ^ k → r < 2 ^ k → g < 2 ^ k
    → get_or (b2a_record k x r g) 6 0 ≡ minus k (bit_xor x r) r
unfolding b2a_record psi
b2a_ends k x r g hx hr hg =
    ap (λ n. bit_xor n (bit_xor (psi k x g) x)) (psi_affine k x g r hx hg hr)
    ∙ bits (psi k x g ∷ psi k x r ∷ x ∷ []) (v 0 ⊕ v 1 ⊕ v 2 ⊕ (v 0 ⊕ v 2)) (v 1) tt

-- ---- arithmetic to Boolean: T is 2G ⊕ u throughout the loop, with u the word of the carry loop
-- O after the start, where t is 2G
abbrev pub masked : ℕ → ℕ → ℕ → ℕ → ℕ
masked g t a r = bit_xor (bit_xor (bit_and g (bit_xor g r)) (bit_and (bit_xor g (bit_xor t a)) r)) (bit_and t a)

-- one turn takes the masked word through one round of the carry loop
pub turn : (g t a r u : ℕ)
    → bit_xor (bit_xor (bit_and (bit_xor t u) r) (masked g t a r)) (bit_and (bit_xor t u) a)
    ≡ bit_xor g (out (bit_xor a r) (bit_and a r) u)
turn g t a r u =
    bits (g ∷ t ∷ a ∷ r ∷ u ∷ [])
    ((v 1 ⊕ v 4) ⊗ v 3 ⊕ (v 0 ⊗ (v 0 ⊕ v 3) ⊕ (v 0 ⊕ (v 1 ⊕ v 2)) ⊗ v 3 ⊕ v 1 ⊗ v 2) ⊕ (v 1 ⊕ v 4) ⊗ v 2)
    (v 0 ⊕ (v 4 ⊗ (v 2 ⊕ v 3) ⊕ v 2 ⊗ v 3)) tt

pub rounds_length : (k a r o x n t : ℕ) → length (a2b_rounds k a r o x n t) ≡ 5 * n + 1
unfolding a2b_rounds a2b_round
rounds_length k a r o x zero t = refl
rounds_length k a r o x (suc n) t = omega (arith, rounds_length k a r o x n (get_or (a2b_round k a r o t) 4 0))

pub rounds_end : (k a r g x n u : ℕ)
    → get_or (a2b_rounds k a r (masked g (double k g) a r) x n (bit_xor (double k g) u)) (5 * n) 0
    ≡ bit_xor x (bit_xor (double k g) (carry k (bit_xor a r) (bit_and a r) n u))
unfolding a2b_rounds a2b_round carry
rounds_end k a r g x zero u = refl
rounds_end k a r g x (suc n) u =
    let next = out (bit_xor a r) (bit_and a r) u in
    let more : 5 * suc n ≡ suc (suc (suc (suc (suc (5 * n))))) = omega arith in
    rw (more, turn g (double k g) a r u, shift_xor k 1 g next) (rounds_end k a r g x n (double k next))

pub a2b_length : (k a r g : ℕ) → 0 < k → length (a2b_record k a r g) ≡ 5 * k + 5
unfolding a2b_record a2b_start
a2b_length k a r g h =
    let t = double k g in
    omega (arith, rounds_length k a r (masked g t a r) (bit_xor t a) (k - 1) t)

pub a2b_ends : (k a r g : ℕ) → 0 < k → a < 2 ^ k → r < 2 ^ k
    → get_or (a2b_record k a r g) (5 * k + 4) 0 ≡ bit_xor (plus k a r) r
unfolding a2b_record a2b_start
a2b_ends k a r g h ha hr =
    let t = double k g in
    let c = carry k (bit_xor a r) (bit_and a r) (k - 1) 0 in
    let more : 5 * k + 4 ≡ suc (suc (suc (suc (suc (suc (suc (suc (suc (5 * (k - 1)))))))))) = omega arith in
    rw more
    (ap (λ u. get_or (a2b_rounds k a r (masked g t a r) (bit_xor t a) (k - 1) u) (5 * (k - 1)) 0) (sym (xor_zero_r t))
    ∙ rounds_end k a r g (bit_xor t a) (k - 1) 0
    ∙ bits (t ∷ a ∷ r ∷ c ∷ []) (v 0 ⊕ v 1 ⊕ (v 0 ⊕ v 3)) (v 1 ⊕ v 2 ⊕ v 3 ⊕ v 2) tt
    ∙ ap (λ n. bit_xor n r) (carry_sum k a r ha hr))

-- ---- for the code's loops: one turn leaves the last entry where it was, and the whole record what it was
pub rounds_again : (k a r o x n m t z : ℕ) → n ≡ suc m
    → get_or (a2b_rounds k a r o x n t) (5 * n) 0 ≡ z
    → get_or (a2b_rounds k a r o x m (get_or (a2b_round k a r o t) 4 0)) (5 * m) 0 ≡ z
unfolding a2b_rounds a2b_round
rounds_again k a r o x n m t z e h =
    let more : 5 * suc m ≡ suc (suc (suc (suc (suc (5 * m))))) = omega arith in
    rw (e, more) at h

pub rounds_front : (k a r o x n m t : ℕ) (front whole : List ℕ) → n ≡ suc m
    → front ++ a2b_rounds k a r o x n t ≡ whole
    → (front ++ a2b_round k a r o t) ++ a2b_rounds k a r o x m (get_or (a2b_round k a r o t) 4 0) ≡ whole
unfolding a2b_rounds
rounds_front k a r o x n m t front whole e h = rw (append_assoc front (a2b_round k a r o t)) (rw e at h)

-- Laws of words of k bits: they stay below 2^k, sums and differences undo each other, moving up respects ⊕ and ∧.
use mathlib.Core.Path.{◌≡◌, sym, ap, ◌∙◌}
use mathlib.Core.List.{[], ◌∷◌}
use Prim.Native.Nat.{ℕ, suc, ◌+◌, ◌-◌, ◌*◌, ◌/◌, ◌%◌, ◌^◌, ◌≤◌, ◌<◌}
use native.Mathlib.Nat.{mod-lt, mod-eq_of_lt, mod-add-mod, add-mod, add-mod_right, zero-mod}
use native.Mathlib.Nat.{zero-mul, add_comm, add-zero, pow-suc}
use native.Mathlib.Omega.{arith}
use lib.Arith.{mod-mul}
use lib.Bits.{bit_xor, xor_mod, xor_block}
use lib.Pow.{pow_pos, mod-mod-pow}
use Rattle.words.specs.Word.{plus, minus, shift, double}
use Rattle.words.proofs.Bits.{bits, v, ◌⊕◌}

-- ---- ⊕ and ∧ are the sum and the product of a ring on bits
pub xor_assoc : (a b c : ℕ) → bit_xor (bit_xor a b) c ≡ bit_xor a (bit_xor b c)
xor_assoc a b c = bits (a ∷ b ∷ c ∷ []) (v 0 ⊕ v 1 ⊕ v 2) (v 0 ⊕ (v 1 ⊕ v 2)) tt

pub xor_back : (a b : ℕ) → bit_xor a (bit_xor a b) ≡ b
xor_back a b = bits (a ∷ b ∷ []) (v 0 ⊕ (v 0 ⊕ v 1)) (v 1) tt

pub xor_swap : (a b c : ℕ) → bit_xor (bit_xor a b) c ≡ bit_xor (bit_xor a c) b
xor_swap a b c = bits (a ∷ b ∷ c ∷ []) (v 0 ⊕ v 1 ⊕ v 2) (v 0 ⊕ v 2 ⊕ v 1) tt

-- ---- below 2^k
pub plus_lt : (k a b : ℕ) → plus k a b < 2 ^ k
unfolding plus
plus_lt k a b = mod-lt _ (pow_pos k)

pub minus_lt : (k a b : ℕ) → minus k a b < 2 ^ k
unfolding minus
minus_lt k a b = mod-lt _ (pow_pos k)

pub shift_lt : (k s a : ℕ) → shift k s a < 2 ^ k
unfolding shift
shift_lt k s a = mod-lt _ (pow_pos k)

-- ---- moving up
pub shift_zero : (k s : ℕ) → shift k s 0 ≡ 0
unfolding shift
shift_zero k s = rw (zero-mul (2 ^ s)) (zero-mod (2 ^ k))

pub shift_xor : (k s a b : ℕ) → shift k s (bit_xor a b) ≡ bit_xor (shift k s a) (shift k s b)
unfolding shift
shift_xor k s a b =
    let above = xor_block s a b 0 0 (pow_pos s) (pow_pos s) in
    let moved : bit_xor (a * 2 ^ s) (b * 2 ^ s) ≡ bit_xor a b * 2 ^ s =
    rw (add-zero (a * 2 ^ s), add-zero (b * 2 ^ s), add-zero (bit_xor a b * 2 ^ s)) at above in
    ap (λ n. n % 2 ^ k) (sym moved) ∙ xor_mod (a * 2 ^ s) (b * 2 ^ s) k

-- the double's lowest digits are the number's, moved up
pub twice_mod : (j n : ℕ) → n * 2 % 2 ^ suc j ≡ n % 2 ^ j * 2
twice_mod j n =
    let digit : n * 2 / 2 ≡ n = omega arith in
    rw (pow-suc 2 j, mod-mul (n * 2) {c = 2} (pow_pos j) (omega arith), digit) (omega arith)

pub double_mod : (k j n : ℕ) → suc j ≤ k → double k n % 2 ^ suc j ≡ n % 2 ^ j * 2
unfolding shift
double_mod k j n h =
    let whole : k ≡ k - suc j + suc j = omega arith in
    rw whole (mod-mod-pow (n * 2) (k - suc j) (suc j) ∙ twice_mod j n)

-- ---- sums and differences
pub plus_mod : (k a b : ℕ) → plus k (a % 2 ^ k) (b % 2 ^ k) ≡ (a + b) % 2 ^ k
unfolding plus
plus_mod k a b = sym (add-mod a b (2 ^ k))

-- s is a − b where s and b add up to a
pub minus_of : (k s a b : ℕ) → s < 2 ^ k → b < 2 ^ k → (s + b) % 2 ^ k ≡ a → minus k a b ≡ s
unfolding minus
minus_of k s a b hs hb e =
    let whole : s + b + (2 ^ k - b) ≡ s + 2 ^ k = omega arith in
    ap (λ x. (x + (2 ^ k - b)) % 2 ^ k) (sym e)
    ∙ mod-add-mod (s + b) (2 ^ k) (2 ^ k - b)
    ∙ ap (λ x. x % 2 ^ k) whole
    ∙ add-mod_right s (2 ^ k)
    ∙ mod-eq_of_lt hs

pub plus_minus : (k x r : ℕ) → x < 2 ^ k → r < 2 ^ k → plus k (minus k x r) r ≡ x
unfolding plus minus
plus_minus k x r hx hr =
    let whole : x + (2 ^ k - r) + r ≡ x + 2 ^ k = omega arith in
    mod-add-mod (x + (2 ^ k - r)) (2 ^ k) r
    ∙ ap (λ n. n % 2 ^ k) whole
    ∙ add-mod_right x (2 ^ k)
    ∙ mod-eq_of_lt hx

pub minus_minus : (k x r : ℕ) → x < 2 ^ k → r < 2 ^ k → minus k x (minus k x r) ≡ r
unfolding plus
minus_minus k x r hx hr =
    minus_of k r x (minus k x r) hr (minus_lt k x r)
    (ap (λ n. n % 2 ^ k) (add_comm r (minus k x r)) ∙ plus_minus k x r hx hr)

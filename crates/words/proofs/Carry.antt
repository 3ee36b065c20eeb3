-- The carries of a sum. `carried x y` are those out of each place of x + y: every adder is judged by its two laws.
-- The carry loop, k − 1 rounds of u = 2((u ∧ (x ⊕ y)) ⊕ (x ∧ y)), finds them.
use mathlib.Core.Path.{◌≡◌, sym, ap, ◌∙◌}
use Prim.Native.Nat.{ℕ, zero, suc, ◌+◌, ◌-◌, ◌*◌, ◌/◌, ◌%◌, ◌^◌, ◌≤◌, ◌<◌, min}
use native.Mathlib.Nat.{mod-eq_of_lt, zero-add, add-zero}
use native.Mathlib.Omega.{arith}
use lib.Arith.{lt-one}
use lib.Bits.{bit_xor, bit_and, differ, xor_lt, xor_step, and_step, xor_mod, and_mod, and_zero_r}
use lib.Pow.{pow_pos}
use Rattle.words.specs.Word.{plus, double}
use Rattle.words.proofs.Bits.{differ_lt, xor_digit, and_digit, digits}
use Rattle.words.proofs.Words.{shift_lt, twice_mod, double_mod, xor_back}

-- the carries out of each place, from those into it: a = x ⊕ y, w = x ∧ y
abbrev pub out : ℕ → ℕ → ℕ → ℕ
out a w u = bit_xor (bit_and u a) w

abbrev digit_out : ℕ → ℕ → ℕ → ℕ
digit_out x y u = differ (min u (differ x y)) (min x y)

digit_out_lt : (x y u : ℕ) → x < 2 → y < 2 → u < 2 → digit_out x y u < 2
digit_out_lt x y u hx hy hu = differ_lt (min u (differ x y)) (min x y) (omega arith) (omega arith)

full_adder : (x y c : ℕ) → x < 2 → y < 2 → c < 2 → x + y + c ≡ digit_out x y c * 2 + differ (differ x y) c
full_adder = digits (λ x y c. x + y + c) (λ x y c. digit_out x y c * 2 + differ (differ x y) c) tt

carry_back : (x y c : ℕ) → x < 2 → y < 2 → c < 2 → differ (differ x y) (differ (differ x y) c) ≡ c
carry_back = digits (λ x y c. differ (differ x y) (differ (differ x y) c)) (λ x y c. c) tt

-- the carries into each place of x + y + c
abbrev into : ℕ → ℕ → ℕ → ℕ
into x y c = bit_xor (bit_xor x y) (x + y + c)

-- each place's carry in is the carry out of the place below it
into_out : (k x y c : ℕ) → x < 2 ^ k → y < 2 ^ k → c < 2
    → into x y c ≡ out (bit_xor x y) (bit_and x y) (into x y c) * 2 + c
into_out zero x y c hx hy hc = rw (lt-one hx, lt-one hy) (rw (and_zero_r (0 + 0 + c)) (omega arith))
into_out (suc k) x y c hx hy hc =
    let x₀ : x % 2 < 2 = omega arith in
    let y₀ : y % 2 < 2 = omega arith in
    let d = differ (x % 2) (y % 2) in
    let d₀ = differ_lt (x % 2) (y % 2) x₀ y₀ in
    let m = digit_out (x % 2) (y % 2) c in
    let a = bit_xor (x / 2) (y / 2) in
    let w = bit_and (x / 2) (y / 2) in
    let u = into (x / 2) (y / 2) m in
    let s = x / 2 + y / 2 + m in
    let m₀ = digit_out_lt (x % 2) (y % 2) c x₀ y₀ hc in
    let above = into_out k (x / 2) (y / 2) m (omega arith) (omega arith) m₀ in
    let sum : x + y + c ≡ s * 2 + differ d c = omega (arith, full_adder (x % 2) (y % 2) c x₀ y₀ hc) in
    let here : into x y c ≡ u * 2 + c =
    xor_digit _ _ a s d (differ d c) (xor_step x y) d₀ sum (differ_lt d c d₀ hc)
    ∙ ap (λ n. u * 2 + n) (carry_back (x % 2) (y % 2) c x₀ y₀ hc) in
    let both = and_digit _ _ u a c d here hc (xor_step x y) d₀ in
    let gone = xor_digit _ _ (bit_and u a) w (min c d) _ both (omega arith) (and_step x y) (omega arith) in
    here ∙ ap (λ n. n * 2 + c) (above ∙ sym gone)

unfoldable pub carried : ℕ → ℕ → ℕ
carried x y = out (bit_xor x y) (bit_and x y) (into x y 0)

module _ (k x y : ℕ) (hx : x < 2 ^ k) (hy : y < 2 ^ k) where
  into_twice : into x y 0 ≡ carried x y * 2
  unfolding carried
  into_twice = into_out k x y 0 hx hy (omega arith) ∙ add-zero (carried x y * 2)

  -- the carries are their own outcome
  pub carried_fixed : carried x y ≡ out (bit_xor x y) (bit_and x y) (carried x y * 2)
  unfolding carried
  carried_fixed = ap (out (bit_xor x y) (bit_and x y)) into_twice

  -- and give the sum
  pub carried_sum : bit_xor (bit_xor x y) (carried x y * 2) ≡ x + y
  carried_sum = ap (bit_xor (bit_xor x y)) (sym into_twice) ∙ xor_back (bit_xor x y) (x + y + 0) ∙ add-zero (x + y)

-- ---- the carry loop: n rounds from u, with a = x ⊕ y and w = x ∧ y
unfoldable pub carry : ℕ → ℕ → ℕ → ℕ → ℕ → ℕ
carry k a w zero u = u
carry k a w (suc n) u = carry k a w n (double k (out a w u))

carry_lt : (k a w n u : ℕ) → u < 2 ^ k → carry k a w n u < 2 ^ k
unfolding carry
carry_lt k a w zero u h = h
carry_lt k a w (suc n) u h = carry_lt k a w n (double k (out a w u)) (shift_lt k 1 (out a w u))

out_mod : (j a w u : ℕ) → out a w u % 2 ^ j ≡ out (a % 2 ^ j) (w % 2 ^ j) (u % 2 ^ j)
out_mod j a w u = xor_mod (bit_and u a) w j ∙ ap (λ n. bit_xor n (w % 2 ^ j)) (and_mod u a j)

-- each round makes one digit more right: h is any word that is its own outcome
module _ (k a w h : ℕ) (fixed : h ≡ out a w (h * 2)) where
  carry_agrees : (n j u : ℕ) → n + j ≤ k
      → u % 2 ^ j ≡ h * 2 % 2 ^ j
      → carry k a w n u % 2 ^ (n + j) ≡ h * 2 % 2 ^ (n + j)
  unfolding carry
  carry_agrees zero j u l e = rw zero-add e
  carry_agrees (suc n) j u l e =
      let more : suc n + j ≡ n + suc j = omega arith in
      let round : out a w u % 2 ^ j ≡ h % 2 ^ j =
      out_mod j a w u
      ∙ ap (out (a % 2 ^ j) (w % 2 ^ j)) e
      ∙ sym (out_mod j a w (h * 2))
      ∙ ap (λ m. m % 2 ^ j) (sym fixed) in
      let doubled : double k (out a w u) % 2 ^ suc j ≡ h * 2 % 2 ^ suc j =
      double_mod k j (out a w u) (omega arith) ∙ ap (λ m. m * 2) round ∙ sym (twice_mod j h) in
      rw more (carry_agrees n (suc j) (double k (out a w u)) (omega arith) doubled)

-- The carry loop adds: k − 1 rounds from zero.
pub carry_sum : (k x y : ℕ) → x < 2 ^ k → y < 2 ^ k
    → bit_xor (bit_xor x y) (carry k (bit_xor x y) (bit_and x y) (k - 1) 0) ≡ plus k x y
unfolding carry plus
carry_sum zero x y hx hy = rw (lt-one hx, lt-one hy)
carry_sum (suc j) x y hx hy =
    let k = suc j in
    let a = bit_xor x y in
    let w = bit_and x y in
    let h = carried x y in
    let less : suc j - 1 ≡ j = omega arith in
    let last : j + 1 ≡ suc j = omega arith in
    let fixed = carried_fixed k x y hx hy in
    let found : carry k a w j 0 ≡ h * 2 % 2 ^ k =
    sym (mod-eq_of_lt (carry_lt k a w j 0 (pow_pos k)))
    ∙ rw last at (carry_agrees k a w h fixed j 1 0 (omega arith) (omega arith)) in
    rw (less, found)
    (ap (λ n. bit_xor n (h * 2 % 2 ^ k)) (sym (mod-eq_of_lt (xor_lt k x y hx hy)))
    ∙ sym (xor_mod a (h * 2) k)
    ∙ ap (λ n. n % 2 ^ k) (carried_sum k x y hx hy))

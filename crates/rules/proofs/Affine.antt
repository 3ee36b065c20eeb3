-- Ψ is affine: Ψ(r) is x' ⊕ the borrows of (x' ⊕ r) − r, and these are linear in r.
use mathlib.Core.Path.{◌≡◌, refl, sym, ap, ◌∙◌}
use mathlib.Core.List.{[], ◌∷◌}
use Prim.Native.Nat.{ℕ, zero, suc, ◌+◌, ◌*◌, ◌/◌, ◌%◌, ◌^◌, ◌<◌}
use native.Mathlib.Nat.{mod-eq_of_lt, add-mul-mod_self_right, pow-suc}
use native.Mathlib.Omega.{arith}
use lib.Arith.{lt-one}
use lib.Bits.{bit_xor, differ, xor_lt, xor_step}
use Rattle.words.proofs.Bits.{xor_digit, xor_halves, digits, bits, v, ◌⊕◌}
use Rattle.words.proofs.Words.{minus_of}
use Rattle.rules.specs.Goubin.{psi}

-- the borrow out of a place, of x''s bit, the borrow in and r's bit
abbrev lent : ℕ → ℕ → ℕ → ℕ
lent zero b r = b
lent (suc x) b r = r

lent_lt : (x b r : ℕ) → b < 2 → r < 2 → lent x b r < 2
lent_lt zero b r hb hr = hb
lent_lt (suc x) b r hb hr = hr

-- the borrows into each of k places of (x ⊕ r) − r − b
borrows : ℕ → ℕ → ℕ → ℕ → ℕ
borrows zero x r b = 0
borrows (suc k) x r b = borrows k (x / 2) (r / 2) (lent (x % 2) b (r % 2)) * 2 + b

-- and the borrow out of the top
top : ℕ → ℕ → ℕ → ℕ → ℕ
top zero x r b = b
top (suc k) x r b = top k (x / 2) (r / 2) (lent (x % 2) b (r % 2))

borrows_lt : (k x r b : ℕ) → b < 2 → borrows k x r b < 2 ^ k
unfolding borrows
borrows_lt zero x r b h = omega arith
borrows_lt (suc k) x r b h =
    let above = borrows_lt k (x / 2) (r / 2) _ (lent_lt (x % 2) b (r % 2) h (omega arith)) in
    omega arith

place : (x r b : ℕ) → x < 2 → r < 2 → b < 2 → differ x b + r + b ≡ differ x r + lent x b r * 2
place = digits (λ x r b. differ x b + r + b) (λ x r b. differ x r + lent x b r * 2) tt

-- what is left of the difference, and what was taken away, make x ⊕ r
restored : (k x r b : ℕ) → x < 2 ^ k → r < 2 ^ k → b < 2
    → bit_xor x (borrows k x r b) + r + b ≡ bit_xor x r + top k x r b * 2 ^ k
unfolding borrows top
restored zero x r b hx hr hb = rw (lt-one hx, lt-one hr) (omega arith)
restored (suc k) x r b hx hr hb =
    let x₀ : x % 2 < 2 = omega arith in
    let r₀ : r % 2 < 2 = omega arith in
    let c = lent (x % 2) b (r % 2) in
    let w = borrows k (x / 2) (r / 2) c in
    let above = restored k (x / 2) (r / 2) c (omega arith) (omega arith) (lent_lt (x % 2) b (r % 2) hb r₀) in
    let here = place (x % 2) (r % 2) b x₀ r₀ hb in
    let joined = xor_digit x (w * 2 + b) (x / 2) w (x % 2) b (omega arith) x₀ refl hb in
    rw (pow-suc 2 k) (omega (arith, xor_step x r))

psi_borrows : (k x r : ℕ) → x < 2 ^ k → r < 2 ^ k → psi k x r ≡ bit_xor x (borrows k x r 0)
unfolding psi
psi_borrows k x r hx hr =
    let w = borrows k x r 0 in
    let low = xor_lt k x w hx (borrows_lt k x r 0 (omega arith)) in
    let whole : bit_xor x w + r ≡ bit_xor x r + top k x r 0 * 2 ^ k =
    omega (arith, restored k x r 0 hx hr (omega arith)) in
    minus_of k (bit_xor x w) (bit_xor x r) r low hr
    (ap (λ n. n % 2 ^ k) whole
    ∙ add-mul-mod_self_right (bit_xor x r) (top k x r 0) (2 ^ k)
    ∙ mod-eq_of_lt (xor_lt k x r hx hr))

lent_linear : (x b c r s : ℕ) → lent x (differ b c) (differ r s) ≡ differ (lent x b r) (lent x c s)
lent_linear zero b c r s = refl
lent_linear (suc x) b c r s = refl

borrows_linear : (k x r s b c : ℕ) → b < 2 → c < 2
    → borrows k x (bit_xor r s) (differ b c) ≡ bit_xor (borrows k x r b) (borrows k x s c)
unfolding borrows
borrows_linear zero x r s b c hb hc = refl
borrows_linear (suc k) x r s b c hb hc =
    let p = lent (x % 2) b (r % 2) in
    let q = lent (x % 2) c (s % 2) in
    let hp = lent_lt (x % 2) b (r % 2) hb (omega arith) in
    let hq = lent_lt (x % 2) c (s % 2) hc (omega arith) in
    let above = borrows_linear k (x / 2) (r / 2) (s / 2) p q hp hq in
    rw ((xor_halves r s).0, (xor_halves r s).1, lent_linear (x % 2) b c (r % 2) (s % 2), above)
    (sym (xor_digit _ _ _ _ b c refl hb refl hc))

-- Ψ(r ⊕ s) = Ψ(r) ⊕ Ψ(s) ⊕ x'
pub psi_affine : (k x r s : ℕ) → x < 2 ^ k → r < 2 ^ k → s < 2 ^ k
    → psi k x (bit_xor r s) ≡ bit_xor (bit_xor (psi k x r) (psi k x s)) x
psi_affine k x r s hx hr hs =
    rw (
      psi_borrows k x (bit_xor r s) hx (xor_lt k r s hr hs),
      psi_borrows k x r hx hr,
      psi_borrows k x s hx hs,
      borrows_linear k x r s 0 0 (omega arith) (omega arith),
    )
    (bits (x ∷ borrows k x r 0 ∷ borrows k x s 0 ∷ []) (v 0 ⊕ (v 1 ⊕ v 2)) (v 0 ⊕ v 1 ⊕ (v 0 ⊕ v 2) ⊕ v 0) tt)

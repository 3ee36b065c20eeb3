-- Any equation in ⊕ and ∧ that holds of single bits holds of all numbers: one law, by computation over the table of
-- bits. With it stand the laws of a number's lowest digit, for inductions that halve a word.
use mathlib.Core.Path.{◌≡◌, refl, sym, ap₂, ◌∙◌}
use mathlib.Core.Bool.{Bool, true, false}
use mathlib.Core.List.{List, [], ◌∷◌, map}
use Prim.Native.Nat.{ℕ, zero, suc, ◌+◌, ◌*◌, ◌/◌, ◌%◌, ◌≤◌, ◌<◌, min}
use native.Mathlib.Nat.{mod-lt, mod-eq_of_lt, le_refl, zero-lt-suc, not-suc-le-zero, le_of_suc-le-suc}
use native.Mathlib.Omega.{arith}
use lib.Bits.{bit_xor, bit_and, differ, xor_step, and_step}
use lib.Dec.{T, eqb, eqb→eq}
use lib.ListN.{get_or, get_or-map}

-- ---- a number by its half and its lowest digit
parts : (n q d : ℕ) → n ≡ q * 2 + d → d < 2 → (n / 2 ≡ q) × (n % 2 ≡ d)
parts n q d e h = omega arith

odd_lt : (a : ℕ) → a % 2 < 2
odd_lt a = mod-lt a (zero-lt-suc 1)

pub differ_lt : (x y : ℕ) → x < 2 → y < 2 → differ x y < 2
differ_lt zero y hx hy = hy
differ_lt (suc zero) zero hx hy = hx
differ_lt (suc zero) (suc zero) hx hy = zero-lt-suc 1
differ_lt (suc zero) (suc (suc y)) hx hy = omega arith
differ_lt (suc (suc x)) zero hx hy = omega arith
differ_lt (suc (suc x)) (suc y) hx hy = omega arith

-- f goes digit by digit, as g does on the lowest one
abbrev pub Digitwise : (ℕ → ℕ → ℕ) → (ℕ → ℕ → ℕ) → Type 0
Digitwise f g =
    (x y a b d e : ℕ) → x ≡ a * 2 + d → d < 2 → y ≡ b * 2 + e → e < 2 → f x y ≡ f a b * 2 + g d e

digitwise : (f g : ℕ → ℕ → ℕ)
    → ((x y : ℕ) → f x y ≡ f (x / 2) (y / 2) * 2 + g (x % 2) (y % 2))
    → Digitwise f g
digitwise f g step x y a b d e p h q l =
    let m = parts x a d p h in
    let n = parts y b e q l in
    rw (step x y, m.0, m.1, n.0, n.1)

pub xor_digit : Digitwise bit_xor differ
xor_digit = digitwise bit_xor differ xor_step

pub and_digit : Digitwise bit_and min
and_digit = digitwise bit_and min and_step

pub xor_halves : (a b : ℕ)
    → (bit_xor a b / 2 ≡ bit_xor (a / 2) (b / 2)) × (bit_xor a b % 2 ≡ differ (a % 2) (b % 2))
xor_halves a b = parts _ _ _ (xor_step a b) (differ_lt _ _ (odd_lt a) (odd_lt b))

-- ---- every assignment of bits to a list of variables
abbrev both : Bool → Bool → Bool
both true b = b
both false b = false

abbrev pub every : List ℕ → (List ℕ → Bool) → Bool
every [] p = p []
every (a ∷ ρ) p = both (every ρ (λ β. p (0 ∷ β))) (every ρ (λ β. p (1 ∷ β)))

half : ℕ → ℕ
half a = a / 2

odd : ℕ → ℕ
odd a = a % 2

both_0 : (a b : Bool) → T (both a b) → T a
both_0 true b t = tt
both_0 false b t = t

both_1 : (a b : Bool) → T (both a b) → T b
both_1 true b t = t
both_1 false b t = absurd t

every_at : (ρ : List ℕ) (p : List ℕ → Bool) → T (every ρ p) → T (p (map odd ρ))
unfolding odd
every_at [] p t = t
every_at (a ∷ ρ) p t =
    let e = every ρ (λ β. p (0 ∷ β)) in
    let f = every ρ (λ β. p (1 ∷ β)) in
    let at_zero = every_at ρ (λ β. p (0 ∷ β)) (both_0 e f t) in
    let at_one = every_at ρ (λ β. p (1 ∷ β)) (both_1 e f t) in
    go (a % 2) (odd_lt a) at_zero at_one
  where
    go : (d : ℕ) → d < 2 → T (p (0 ∷ map odd ρ)) → T (p (1 ∷ map odd ρ)) → T (p (d ∷ map odd ρ))
    go zero h x y = x
    go (suc zero) h x y = y
    go (suc (suc d)) h x y = absurd (not-suc-le-zero (le_of_suc-le-suc (le_of_suc-le-suc h)))

every_map : (ρ : List ℕ) (f : ℕ → ℕ) (p : List ℕ → Bool) → every (map f ρ) p ≡ every ρ p
every_map [] f p = refl
every_map (a ∷ ρ) f p = ap₂ both (every_map ρ f (λ β. p (0 ∷ β))) (every_map ρ f (λ β. p (1 ∷ β)))

-- a rule of three digits, by its eight cases
abbrev pub three : (ℕ → ℕ → ℕ → ℕ) → List ℕ → ℕ
three f β = f (get_or β 0 0) (get_or β 1 0) (get_or β 2 0)

abbrev pub agree : (f g : ℕ → ℕ → ℕ → ℕ) → List ℕ → Bool
agree f g β = eqb (three f β) (three g β)

pub digits : (f g : ℕ → ℕ → ℕ → ℕ) → T (every (0 ∷ 0 ∷ 0 ∷ []) (agree f g))
    → (a b c : ℕ) → a < 2 → b < 2 → c < 2 → f a b c ≡ g a b c
unfolding odd
digits f g t a b c ha hb hc =
    let here = every_at (a ∷ b ∷ c ∷ []) (agree f g) t in
    let e = eqb→eq (f (a % 2) (b % 2) (c % 2)) (g (a % 2) (b % 2) (c % 2)) here in
    rw (mod-eq_of_lt ha, mod-eq_of_lt hb, mod-eq_of_lt hc) at e

-- ---- terms in ⊕ and ∧, their values over words and over single bits
pub data Term : Type 0 where
  v : ℕ → Term
  ◌⊕◌ : Term → Term → Term
  ◌⊗◌ : Term → Term → Term

infixl 60 ◌⊕◌
infixl 70 ◌⊗◌
abbrev pub val : List ℕ → Term → ℕ
val ρ (v i) = get_or ρ i 0
val ρ (a ⊕ b) = bit_xor (val ρ a) (val ρ b)
val ρ (a ⊗ b) = bit_and (val ρ a) (val ρ b)

abbrev pub bit : List ℕ → Term → ℕ
bit ρ (v i) = get_or ρ i 0
bit ρ (a ⊕ b) = differ (bit ρ a) (bit ρ b)
bit ρ (a ⊗ b) = min (bit ρ a) (bit ρ b)

bit_lt : (ρ : List ℕ) (e : Term) → bit (map odd ρ) e < 2
unfolding odd
bit_lt ρ (v i) = rw (get_or-map odd ρ i 0) (odd_lt (get_or ρ i 0))
bit_lt ρ (a ⊕ b) = differ_lt _ _ (bit_lt ρ a) (bit_lt ρ b)
bit_lt ρ (a ⊗ b) = omega (arith, bit_lt ρ a)

-- a term's value, from the halves and the lowest bits of its variables
val_step : (ρ : List ℕ) (e : Term) → val ρ e ≡ val (map half ρ) e * 2 + bit (map odd ρ) e
unfolding half odd
val_step ρ (v i) = rw (get_or-map half ρ i 0, get_or-map odd ρ i 0) (omega arith)
val_step ρ (a ⊕ b) = xor_digit _ _ _ _ _ _ (val_step ρ a) (bit_lt ρ a) (val_step ρ b) (bit_lt ρ b)
val_step ρ (a ⊗ b) = and_digit _ _ _ _ _ _ (val_step ρ a) (bit_lt ρ a) (val_step ρ b) (bit_lt ρ b)

-- ---- the induction: all variables halve, until all are zero
size : List ℕ → ℕ
size [] = 0
size (a ∷ ρ) = a + size ρ

size_half : (ρ : List ℕ) → size (map half ρ) ≤ size ρ / 2
unfolding size half
size_half [] = le_refl 0
size_half (a ∷ ρ) = omega (arith, size_half ρ)

zeros : (ρ : List ℕ) (i : ℕ) → size ρ ≤ 0 → get_or ρ i 0 ≡ 0
unfolding size
zeros [] i h = refl
zeros (a ∷ ρ) zero h = omega arith
zeros (a ∷ ρ) (suc i) h = zeros ρ i (omega arith)

val_zero : (ρ : List ℕ) (e : Term) → size ρ ≤ 0 → val ρ e ≡ 0
val_zero ρ (v i) h = zeros ρ i h
val_zero ρ (a ⊕ b) h = rw (val_zero ρ a h, val_zero ρ b h)
val_zero ρ (a ⊗ b) h = rw (val_zero ρ a h)

abbrev pub same : Term → Term → List ℕ → Bool
same a b β = eqb (bit β a) (bit β b)

halving : (n : ℕ) (ρ : List ℕ) (a b : Term) → size ρ ≤ n → T (every ρ (same a b)) → val ρ a ≡ val ρ b
halving zero ρ a b h t = val_zero ρ a h ∙ sym (val_zero ρ b h)
halving (suc n) ρ a b h t =
    let smaller : size (map half ρ) ≤ n = omega (arith, size_half ρ) in
    let above = halving n (map half ρ) a b smaller (rw (every_map ρ half (same a b)) t) in
    let here = eqb→eq _ _ (every_at ρ (same a b) t) in
    val_step ρ a ∙ ap₂ (λ (x y : ℕ). x * 2 + y) above here ∙ sym (val_step ρ b)

-- The law. `bits (a ∷ b ∷ []) (v 0 ⊕ v 1) (v 1 ⊕ v 0) tt : bit_xor a b ≡ bit_xor b a`
pub bits : (ρ : List ℕ) (a b : Term) → T (every ρ (same a b)) → val ρ a ≡ val ρ b
bits ρ a b t = halving (size ρ) ρ a b (le_refl (size ρ)) t

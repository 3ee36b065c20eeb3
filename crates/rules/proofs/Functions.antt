-- The functions, the rotation and the shift of the hashes: what the masked rules make of shares, and that it is what
-- the standard makes of words.
use Prim.Native.Nat.{ℕ, zero, suc, ◌+◌, ◌-◌, ◌*◌, ◌/◌, ◌%◌, ◌^◌, ◌≤◌, ◌<◌}
use mathlib.Core.Path.{◌≡◌, refl, sym, ap, ap₂, ◌∙◌}
use mathlib.Core.List.{List, [], ◌∷◌, map}
use native.Mathlib.Nat.{mod-lt, mod-eq_of_lt, div-le_self, lt_of_le_of_lt, div-add-mod', div-lt_iff_lt-mul, zero-div}
use native.Mathlib.Nat.{zero-mul, add_comm, add-mul, mul_assoc, mul-add-mod_self_right, mul-lt-mul_of_pos_right}
use native.Mathlib.Omega.{arith}
use lib.Bits.{bit_and, bit_xor, xor_shr, or_lt, xor_lt, and_lt, and_mask, or_shifted, xor_shifted}
use lib.ListN.{length}
use lib.Pow.{pow_pos, pow-add}
use Rattle.words.specs.Word.{shift}
use Rattle.words.proofs.Bits.{bits, v, ◌⊕◌, ◌⊗◌}
use Rattle.words.proofs.Words.{shift_xor, shift_zero, shift_lt}
use Rattle.rules.specs.Supply.{Rule, Shares, opened}
use Rattle.rules.specs.Shares.{each}
use Rattle.rules.specs.Counts.{and_draws, quarter_ands}
use Rattle.rules.specs.Standard.{ROTL, complement, Ch, Parity, Maj, f}
use Rattle.rules.specs.Sha1.{rotl, rotated, blended, chosen}
use Rattle.rules.proofs.Rule.{give, bind, counted}
use Rattle.rules.proofs.Openings.{xor_middle, length_each, xor_opens}
use Rattle.rules.proofs.Pairs.{and_rule}

-- ---- the function of a quarter, with one AND at most
unfoldable pub plain : ℕ → ℕ → ℕ → ℕ → ℕ
plain zero b c d = bit_xor d (bit_and b (bit_xor c d))
plain (suc zero) b c d = bit_xor (bit_xor b c) d
plain (suc (suc zero)) b c d = bit_xor d (bit_and (bit_xor b d) (bit_xor c d))
plain (suc (suc (suc q))) b c d = bit_xor (bit_xor b c) d

-- it is the standard's
pub plain_is : (k q b c d : ℕ) → d < 2 ^ k → plain q b c d ≡ f k q b c d
unfolding plain f Ch Parity Maj complement
plain_is k zero b c d h =
    let m = 2 ^ k - 1 in
    let e : bit_and d m ≡ d = and_mask d k ∙ mod-eq_of_lt h in
    ap (λ t. bit_xor t (bit_and b (bit_xor c d))) (sym e)
    ∙ bits (b ∷ c ∷ d ∷ m ∷ []) (v 2 ⊗ v 3 ⊕ v 0 ⊗ (v 1 ⊕ v 2)) (v 0 ⊗ v 1 ⊕ (v 0 ⊕ v 3) ⊗ v 2) tt
plain_is k (suc zero) b c d h = refl
plain_is k (suc (suc zero)) b c d h =
    bits (b ∷ c ∷ d ∷ []) (v 2 ⊕ (v 0 ⊕ v 2) ⊗ (v 1 ⊕ v 2)) (v 0 ⊗ v 1 ⊕ v 0 ⊗ v 2 ⊕ v 1 ⊗ v 2) tt
plain_is k (suc (suc (suc q))) b c d h = refl

pub plain_lt : (k q b c d : ℕ) → b < 2 ^ k → c < 2 ^ k → d < 2 ^ k → plain q b c d < 2 ^ k
unfolding plain
plain_lt k zero b c d hb hc hd = xor_lt k d _ hd (and_lt k b _ hb (xor_lt k c d hc hd))
plain_lt k (suc zero) b c d hb hc hd = xor_lt k _ d (xor_lt k b c hb hc) hd
plain_lt k (suc (suc zero)) b c d hb hc hd =
    xor_lt k d _ hd (and_lt k _ _ (xor_lt k b d hb hd) (xor_lt k c d hc hd))
plain_lt k (suc (suc (suc q))) b c d hb hc hd = xor_lt k _ d (xor_lt k b c hb hc) hd

-- shares of two words, XORed
pub xors : (n : ℕ) (x y : List ℕ) → length x ≡ n → length y ≡ n
    → Shares n (bit_xor (opened x) (opened y)) (each bit_xor x y)
xors n x y hx hy =
    let l : length y ≡ length x = hy ∙ sym hx in
    (length_each bit_xor x y l ∙ hx, xor_opens x y l)

module _ (n : ℕ) (b c d : List ℕ) (hb : length b ≡ n) (hc : length c ≡ n) (hd : length d ≡ n) where
  -- d ⊕ (u ∧ (c ⊕ d)), where u opens to s
  blended_rule : (u : List ℕ) (s : ℕ) → Shares n s u
      → Rule (1 * and_draws n)
      (Shares n (bit_xor (opened d) (bit_and s (bit_xor (opened c) (opened d)))))
      (blended u (each bit_xor c d) d)
  unfolding blended
  blended_rule u s h =
      let cd = xors n c d hc hd in
      counted
      (bind (and_rule n u (each bit_xor c d) h.0 cd.0) (λ z p.
      let g = xors n d z hd p.0 in
      give (Shares n _) (each bit_xor d z)
      (g.0, g.1 ∙ ap (bit_xor (opened d)) (p.1 ∙ ap₂ bit_and h.1 cd.1))))
      (omega arith)

  parity_rule : Rule (0 * and_draws n)
      (Shares n (bit_xor (bit_xor (opened b) (opened c)) (opened d)))
      (λ ws at. (each bit_xor (each bit_xor b c) d, at))
  parity_rule =
      let bc = xors n b c hb hc in
      let g = xors n (each bit_xor b c) d bc.0 hd in
      counted
      (give (Shares n _) (each bit_xor (each bit_xor b c) d)
      (g.0, g.1 ∙ ap (λ t. bit_xor t (opened d)) bc.1))
      (sym (zero-mul (and_draws n)))

  pub chosen_rule : (q : ℕ)
      → Rule (quarter_ands q * and_draws n) (Shares n (plain q (opened b) (opened c) (opened d))) (chosen q b c d)
  unfolding chosen plain quarter_ands
  chosen_rule zero = blended_rule b (opened b) (hb, refl)
  chosen_rule (suc zero) = parity_rule
  chosen_rule (suc (suc zero)) = blended_rule (each bit_xor b d) (bit_xor (opened b) (opened d)) (xors n b d hb hd)
  chosen_rule (suc (suc (suc q))) = parity_rule

-- ---- the rotation goes share by share
rotl_xor : (k r x y : ℕ) → rotl k r (bit_xor x y) ≡ bit_xor (rotl k r x) (rotl k r y)
unfolding rotl
rotl_xor k r x y =
    ap₂ bit_xor (shift_xor k r x y) (xor_shr x y (k - r))
    ∙ xor_middle (shift k r x) (shift k r y) (x / 2 ^ (k - r)) (y / 2 ^ (k - r))

pub rotated_opens : (k r : ℕ) (x : List ℕ) → opened (rotated k r x) ≡ rotl k r (opened x)
unfolding opened rotl
rotated_opens k r [] = sym (ap₂ bit_xor (shift_zero k r) (zero-div (2 ^ (k - r))))
rotated_opens k r (a ∷ x) = ap (bit_xor (rotl k r a)) (rotated_opens k r x) ∙ sym (rotl_xor k r a (opened x))

-- with k = j + r: the low j bits stand above the high r
low_part : (j r x : ℕ) → (x * 2 ^ r) % 2 ^ (j + r) ≡ (x % 2 ^ j) * 2 ^ r
low_part j r x =
    let m = 2 ^ j in
    let c = 2 ^ r in
    rw (pow-add 2 j r)
    (ap (λ t. t * c % (m * c)) (sym (div-add-mod' x m))
    ∙ ap (λ t. t % (m * c)) (add-mul (x / m * m) (x % m) c ∙ ap (λ t. t + x % m * c) (mul_assoc (x / m) m c))
    ∙ mul-add-mod_self_right (x / m) (m * c) (x % m * c)
    ∙ mod-eq_of_lt (mul-lt-mul_of_pos_right (mod-lt x (pow_pos j)) (pow_pos r)))

pub rotl_is : (k r x : ℕ) → r ≤ k → x < 2 ^ k → rotl k r x ≡ ROTL k r x
unfolding rotl ROTL shift
rotl_is k r x h l =
    let j = k - r in
    let e : j + r ≡ k = omega arith in
    let p : (x * 2 ^ r) % 2 ^ k ≡ (x % 2 ^ j) * 2 ^ r = rw e at (low_part j r x) in
    let q : x < 2 ^ r * 2 ^ j = rw (← pow-add 2 r j, add_comm r j, e) l in
    let g : x / 2 ^ j < 2 ^ r = (div-lt_iff_lt-mul (pow_pos j)).1 q in
    rw p (xor_shifted (x % 2 ^ j) r (x / 2 ^ j) g ∙ sym (or_shifted (x % 2 ^ j) r (x / 2 ^ j) g))

pub fallen_lt : (k r x : ℕ) → x < 2 ^ k → x / 2 ^ r < 2 ^ k
fallen_lt k r x h = lt_of_le_of_lt (div-le_self x (2 ^ r)) h

pub ROTL-lt : (k r x : ℕ) → x < 2 ^ k → ROTL k r x < 2 ^ k
unfolding ROTL
ROTL-lt k r x h =
    or_lt k (shift k r x) (x / 2 ^ (k - r)) (shift_lt k r x) (fallen_lt k (k - r) x h)

-- ---- and so does the shift to the right
pub fallen_opens : (r : ℕ) (x : List ℕ) → opened (map (λ v. v / 2 ^ r) x) ≡ opened x / 2 ^ r
unfolding opened
fallen_opens r [] = sym (zero-div (2 ^ r))
fallen_opens r (a ∷ x) = ap (bit_xor (a / 2 ^ r)) (fallen_opens r x) ∙ sym (xor_shr a (opened x) r)

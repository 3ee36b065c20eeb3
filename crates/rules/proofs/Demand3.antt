-- Demand 3: each step of each record, taken alone, is independent of the secret; and that the statement can fail.
use mathlib.Core.Path.{◌≡◌, refl, sym, ap, ap₂, ◌∙◌}
use mathlib.Core.List.{List, [], ◌∷◌}
use Prim.Native.Nat.{ℕ, zero, suc, ◌+◌, ◌-◌, ◌*◌, ◌^◌, ◌<◌}
use native.Mathlib.Nat.{mod-eq_of_lt, suc-mul}
use native.Mathlib.Omega.{arith}
use lib.Bits.{bit_xor, bit_and, xor_lt, and_lt, and_mask, xor_zero_r}
use lib.ListN.{get_or}
use lib.Pow.{pow_pos, pow-lt, ones_lt}
use Rattle.words.specs.Word.{minus, double}
use Rattle.words.specs.Count.{Probe}
use Rattle.words.proofs.Bits.{bits, v, ◌⊕◌, ◌⊗◌}
use Rattle.words.proofs.Words.{minus_lt, plus_minus, shift_lt, shift_xor, shift_zero}
use Rattle.words.proofs.Carry.{out, carry, carry_sum}
use Rattle.words.proofs.Counting.{Low, Free, plain, like, by_xor, by_minus, by_turn, by_fresh}
use Rattle.words.proofs.Counting.{Entries, no_entry, ◌▹◌, entries_like, pairs_some, pairs_none}
use Rattle.rules.specs.Goubin.{b2a_record, a2b_start, a2b_round, a2b_rounds, a2b_record}
use Rattle.rules.specs.Independent.{Independent}
use Rattle.rules.proofs.Ends.{b2a_ends, masked, turn}

-- two secrets have the count of the step without one
free_independent : (k : ℕ) (step : Probe) → Free k step → Independent k step
free_independent k step a x y n hx hy = a.counts x n hx ∙ sym (a.counts y n hy)

-- ---- Boolean to arithmetic
module _ (k : ℕ) where
  -- x' stands in it and the secret does not
  shared : (h : ℕ → ℕ → ℕ) → Free k (λ x r g. h (bit_xor x r) g)
  shared h = by_xor k (λ x r g. h r g) (plain k h)

  -- g stands in it only as g ⊕ x
  fresh : (f : Probe) → Free k f → Free k (λ x r g. f x r (bit_xor g x))
  fresh f a = by_fresh k (λ x r. x) (λ x r hx hr. hx) f a

  A₁-is : (x r g : ℕ) → bit_xor (bit_xor x r) (bit_xor g r) ≡ bit_xor g x
  A₁-is x r g = bits (x ∷ r ∷ g ∷ []) (v 0 ⊕ v 1 ⊕ (v 2 ⊕ v 1)) (v 2 ⊕ v 0) tt

  A₁-free : Free k (λ x r g. bit_xor (bit_xor x r) (bit_xor g r))
  A₁-free =
      like k _ (λ x r g. bit_xor g x) (λ x r g hx hr hg. A₁-is x r g)
      (fresh (λ x r g. g) (plain k (λ r g. g)))

  G₁-is : (x r g : ℕ) → bit_xor g r ≡ bit_xor (bit_xor g x) (bit_xor x r)
  G₁-is x r g = bits (x ∷ r ∷ g ∷ []) (v 2 ⊕ v 1) (v 2 ⊕ v 0 ⊕ (v 0 ⊕ v 1)) tt

  A₂-free : Free k (λ x r g. minus k (bit_xor (bit_xor x r) (bit_xor g r)) (bit_xor g r))
  A₂-free =
      like k _ (λ x r g. minus k (bit_xor g x) (bit_xor (bit_xor g x) (bit_xor x r)))
      (λ x r g hx hr hg. ap₂ (minus k) (A₁-is x r g) (G₁-is x r g))
      (fresh (λ x r g. minus k g (bit_xor g (bit_xor x r))) (shared (λ r g. minus k g (bit_xor g r))))

  -- the answer is x − r
  A₃-free : Free k (λ x r g. get_or (b2a_record k (bit_xor x r) r g) 6 0)
  A₃-free =
      like k _ (λ x r g. minus k x r) (λ x r g hx hr hg.
      b2a_ends k (bit_xor x r) r g (xor_lt k x r hx hr) hr hg
      ∙ ap (λ n. minus k n r) (bits (x ∷ r ∷ []) (v 0 ⊕ v 1 ⊕ v 1) (v 0) tt))
      (by_minus k (λ x r g. r) (plain k (λ r g. r)))

  b2a_free : Entries k (λ x r g. b2a_record k (bit_xor x r) r g)
  unfolding b2a_record
  b2a_free =
      shared (λ r g. bit_xor r g)
      ▹ shared (λ r g. minus k (bit_xor r g) g)
      ▹ shared (λ r g. bit_xor (minus k (bit_xor r g) g) r)
      ▹ plain k (λ r g. bit_xor g r)
      ▹ A₁-free
      ▹ A₂-free
      ▹ A₃-free
      ▹ no_entry k

pub b2a_independent : (k i : ℕ) → Independent k (λ x r g. get_or (b2a_record k (bit_xor x r) r g) i 0)
b2a_independent k i = free_independent k _ ((b2a_free k).at i)

-- ---- arithmetic to Boolean
module _ (k : ℕ) where
  -- A, for the secret x and the mask r
  abbrev A : ℕ → ℕ → ℕ
  A x r = minus k x r

  A-low : Low k A
  A-low x r hx hr = minus_lt k x r

  both_low : Low k (λ x r. bit_and (A x r) r)
  both_low x r hx hr = and_lt k (A x r) r (minus_lt k x r) hr

  either_low : Low k (λ x r. bit_xor (A x r) r)
  either_low x r hx hr = xor_lt k (A x r) r (minus_lt k x r) hr

  -- A stands in it and the secret does not
  summed : (h : ℕ → ℕ → ℕ) → Free k (λ x r g. h (A x r) g)
  summed h = by_minus k (λ x r g. h r g) (plain k h)

  -- it is g ⊕ (2g ∧ m) ⊕ c
  turned : (m c : ℕ → ℕ → ℕ) → Low k m → Low k c → (f : Probe)
      → ((x r g : ℕ) → f x r g ≡ bit_xor (bit_xor g (bit_and (double k g) (m x r))) (c x r)) → Free k f
  turned m c lm lc f e = like k f _ (λ x r g hx hr hg. e x r g) (by_turn k m c lm lc (λ x r g. g) (plain k (λ r g. g)))

  -- ---- the loop, where T is 2(g ⊕ w), with w of x and r
  abbrev O : Probe
  O x r g = masked g (double k g) (A x r) r

  abbrev T : (ℕ → ℕ → ℕ) → Probe
  T w x r g = bit_xor (double k g) (double k (w x r))

  abbrev rounds : ℕ → (ℕ → ℕ → ℕ) → ℕ → ℕ → ℕ → List ℕ
  rounds n w x r g = a2b_rounds k (A x r) r (O x r g) (bit_xor (double k g) (A x r)) n (T w x r g)

  -- w after a turn
  abbrev after : (ℕ → ℕ → ℕ) → ℕ → ℕ → ℕ
  after w x r = out (bit_xor (A x r) r) (bit_and (A x r) r) (double k (w x r))

  after_low : (w : ℕ → ℕ → ℕ) → Low k (after w)
  after_low w x r hx hr =
      let u = double k (w x r) in
      xor_lt k _ _ (and_lt k u _ (shift_lt k 1 (w x r)) (either_low x r hx hr)) (both_low x r hx hr)

  module _ (w : ℕ → ℕ → ℕ) where
    -- a step of T
    of_T : Low k w → (f : Probe) → Free k (λ x r g. f x r (double k g)) → Free k (λ x r g. f x r (T w x r g))
    of_T lw f a =
        like k _ _ (λ x r g hx hr hg. ap (f x r) (sym (shift_xor k 1 g (w x r))))
        (by_fresh k w lw (λ x r g. f x r (double k g)) a)

    abbrev G₂ : Probe
    G₂ x r g = bit_xor (bit_and (T w x r g) r) (O x r g)

    G₂-free : Free k G₂
    G₂-free =
        turned A (λ x r. bit_and (bit_xor (double k (w x r)) (A x r)) r) A-low
        (λ x r hx hr. and_lt k _ r (xor_lt k _ _ (shift_lt k 1 (w x r)) (minus_lt k x r)) hr) G₂
        (λ x r g.
        bits (g ∷ double k g ∷ A x r ∷ r ∷ double k (w x r) ∷ [])
        ((v 1 ⊕ v 4) ⊗ v 3 ⊕ (v 0 ⊗ (v 0 ⊕ v 3) ⊕ (v 0 ⊕ (v 1 ⊕ v 2)) ⊗ v 3 ⊕ v 1 ⊗ v 2))
        (v 0 ⊕ v 1 ⊗ v 2 ⊕ (v 4 ⊕ v 2) ⊗ v 3) tt)

    abbrev G₃ : Probe
    G₃ x r g = bit_xor (G₂ x r g) (bit_and (T w x r g) (A x r))

    G₃-is : (x r g : ℕ) → G₃ x r g ≡ bit_xor g (after w x r)
    G₃-is x r g = turn g (double k g) (A x r) r (double k (w x r))

    -- a step of the turn's last G
    of_G₃ : (h : ℕ → ℕ) → Free k (λ x r g. h (G₃ x r g))
    of_G₃ h =
        like k _ (λ x r g. h (bit_xor g (after w x r))) (λ x r g hx hr hg. ap h (G₃-is x r g))
        (by_fresh k (after w) (after_low w) (λ x r g. h g) (plain k (λ r g. h g)))

    T-next : (x r g : ℕ) → double k (G₃ x r g) ≡ T (after w) x r g
    T-next x r g = ap (double k) (G₃-is x r g) ∙ shift_xor k 1 g (after w x r)

  -- n turns are left, and they end in x ⊕ r
  rounds_free : (n : ℕ) (w : ℕ → ℕ → ℕ) → Low k w
      → ((x r : ℕ) → x < 2 ^ k → r < 2 ^ k
      → bit_xor (A x r) (carry k (bit_xor (A x r) r) (bit_and (A x r) r) n (double k (w x r))) ≡ bit_xor x r)
      → Entries k (rounds n w)
  unfolding a2b_rounds a2b_round carry
  rounds_free zero w lw ends =
      like k _ (λ x r g. bit_xor x r) (λ x r g hx hr hg.
      bits (double k g ∷ A x r ∷ double k (w x r) ∷ []) (v 0 ⊕ v 1 ⊕ (v 0 ⊕ v 2)) (v 1 ⊕ v 2) tt ∙ ends x r hx hr)
      (by_xor k (λ x r g. r) (plain k (λ r g. r)))
      ▹ no_entry k
  rounds_free (suc n) w lw ends =
      of_T w lw (λ x r t. bit_and t r) (plain k (λ r g. bit_and (double k g) r))
      ▹ G₂-free w
      ▹ of_T w lw (λ x r t. bit_and t (A x r)) (summed (λ r g. bit_and (double k g) r))
      ▹ of_G₃ w (λ g. g)
      ▹ of_G₃ w (double k)
      ▹ entries_like k _ (rounds n (after w)) (λ x r g hx hr hg.
      ap (a2b_rounds k (A x r) r (O x r g) (bit_xor (double k g) (A x r)) n) (T-next w x r g))
      (rounds_free n (after w) (after_low w) ends)

  -- ---- the start
  abbrev G₂-start : Probe
  G₂-start x r g = bit_and (bit_xor g (bit_xor (double k g) (A x r))) r

  -- 2g is 2g ∧ (2^k − 1)
  G₂-start-free : Free k G₂-start
  G₂-start-free =
      like k _ (λ x r g. bit_and (bit_xor (bit_xor g (bit_and (double k g) (2 ^ k - 1))) (A x r)) r) (λ x r g hx hr hg.
      bits (g ∷ double k g ∷ A x r ∷ r ∷ []) ((v 0 ⊕ (v 1 ⊕ v 2)) ⊗ v 3) ((v 0 ⊕ v 1 ⊕ v 2) ⊗ v 3) tt
      ∙ ap (λ t. bit_and (bit_xor (bit_xor g t) (A x r)) r) (sym (uncut g)))
      (by_turn k (λ x r. 2 ^ k - 1) A (λ x r hx hr. ones_lt k) A-low
      (λ x r g. bit_and g r) (plain k (λ r g. bit_and g r)))
    where
      uncut : (g : ℕ) → bit_and (double k g) (2 ^ k - 1) ≡ double k g
      uncut g = and_mask (double k g) k ∙ mod-eq_of_lt (shift_lt k 1 g)

  abbrev O₂ : Probe
  O₂ x r g = bit_xor (bit_and g (bit_xor g r)) (G₂-start x r g)

  O₂-free : Free k O₂
  O₂-free =
      turned (λ x r. r) (λ x r. bit_and (A x r) r) (λ x r hx hr. hr) both_low O₂ (λ x r g.
      bits (g ∷ double k g ∷ A x r ∷ r ∷ [])
      (v 0 ⊗ (v 0 ⊕ v 3) ⊕ (v 0 ⊕ (v 1 ⊕ v 2)) ⊗ v 3) (v 0 ⊕ v 1 ⊗ v 3 ⊕ v 2 ⊗ v 3) tt)

  O-free : Free k O
  O-free =
      turned (λ x r. bit_xor (A x r) r) (λ x r. bit_and (A x r) r) either_low both_low O (λ x r g.
      bits (g ∷ double k g ∷ A x r ∷ r ∷ [])
      (v 0 ⊗ (v 0 ⊕ v 3) ⊕ (v 0 ⊕ (v 1 ⊕ v 2)) ⊗ v 3 ⊕ v 1 ⊗ v 2) (v 0 ⊕ v 1 ⊗ (v 2 ⊕ v 3) ⊕ v 2 ⊗ v 3) tt)

  -- A ⊕ the carries is x ⊕ r
  carries_end : (x r : ℕ) → x < 2 ^ k → r < 2 ^ k
      → bit_xor (A x r) (carry k (bit_xor (A x r) r) (bit_and (A x r) r) (k - 1) 0) ≡ bit_xor x r
  carries_end x r hx hr =
      let a = A x r in
      bits (a ∷ r ∷ carry k (bit_xor a r) (bit_and a r) (k - 1) 0 ∷ []) (v 0 ⊕ v 2) (v 0 ⊕ v 1 ⊕ v 2 ⊕ v 1) tt
      ∙ ap (λ n. bit_xor n r) (carry_sum k a r (minus_lt k x r) hr ∙ plus_minus k x r hx hr)

  -- the loop starts from T = 2g
  loop_free : Entries k (λ x r g. a2b_rounds k (A x r) r (O x r g) (bit_xor (double k g) (A x r)) (k - 1) (double k g))
  loop_free =
      entries_like k _ (rounds (k - 1) (λ x r. 0)) (λ x r g hx hr hg.
      ap (a2b_rounds k (A x r) r (O x r g) (bit_xor (double k g) (A x r)) (k - 1))
      (sym (ap (bit_xor (double k g)) (shift_zero k 1) ∙ xor_zero_r (double k g))))
      (rounds_free (k - 1) (λ x r. 0) (λ x r hx hr. pow_pos k)
      (λ x r hx hr. rw (shift_zero k 1) (carries_end x r hx hr)))

  a2b_free : Entries k (λ x r g. a2b_record k (A x r) r g)
  unfolding a2b_record a2b_start
  a2b_free =
      plain k (λ r g. double k g)
      ▹ plain k (λ r g. bit_xor g r)
      ▹ plain k (λ r g. bit_and g (bit_xor g r))
      ▹ summed (λ r g. bit_xor (double k g) r)
      ▹ summed (λ r g. bit_xor g (bit_xor (double k g) r))
      ▹ G₂-start-free
      ▹ O₂-free
      ▹ summed (λ r g. bit_and (double k g) r)
      ▹ O-free
      ▹ loop_free

pub a2b_independent : (k i : ℕ) → Independent k (λ x r g. get_or (a2b_record k (minus k x r) r g) i 0)
a2b_independent k i = free_independent k _ ((a2b_free k).at i)

-- ---- the statement can fail: where one secret shows a value that another never does
refuted : (k : ℕ) (step : Probe) (x y r g n : ℕ) → x < 2 ^ k → y < 2 ^ k → r < 2 ^ k → g < 2 ^ k
    → step x r g ≡ n
    → ((r g : ℕ) → r < 2 ^ k → g < 2 ^ k → step y r g ≡ n → ⊥)
    → Independent k step → ⊥
refuted k step x y r g n hx hy hr hg shows never h =
    omega (
      arith,
      pairs_some k (step x) n r g hr hg shows,
      pairs_none k (step y) n never,
      h x y n hx hy,
    )

-- a step that shows the secret
pub secret_shown : (k : ℕ) → 0 < k → Independent k (λ x r g. x) → ⊥
secret_shown k h =
    refuted k (λ x r g. x) 1 0 0 0 1 (pow-lt h) (pow_pos k) (pow_pos k) (pow_pos k) refl
    (λ r g hr hg e. omega arith)

-- T = x' ⊕ G and G = G ⊕ r taken together, whose XOR is x
pub two_steps_show : (k : ℕ) → 0 < k
    → Independent k (λ x r g. let steps = b2a_record k (bit_xor x r) r g in get_or steps 0 0 * 2 ^ k + get_or steps 3 0)
    → ⊥
unfolding b2a_record
two_steps_show k h =
    let both : Probe = λ x r g. bit_xor (bit_xor x r) g * 2 ^ k + bit_xor g r in
    refuted k both 0 1 0 0 0 (pow_pos k) (pow-lt h) (pow_pos k) (pow_pos k) (omega arith)
    (λ r g hr hg e. never r g e)
  where
    upper : (n m : ℕ) → 0 < m → n * m ≡ 0 → n ≡ 0
    upper zero m h e = refl
    upper (suc n) m h e = absurd (omega (arith, suc-mul n m))

    never : (r g : ℕ) → bit_xor (bit_xor 1 r) g * 2 ^ k + bit_xor g r ≡ 0 → ⊥
    never r g e =
        let z : bit_xor g r ≡ 0 = omega arith in
        let t : bit_xor (bit_xor 1 r) g ≡ 0 = upper (bit_xor (bit_xor 1 r) g) (2 ^ k) (pow_pos k) (omega arith) in
        let o : ◌≡◌ {A = ℕ} 1 0 =
        bits (1 ∷ r ∷ g ∷ []) (v 0) (v 0 ⊕ v 1 ⊕ v 2 ⊕ (v 2 ⊕ v 1)) tt ∙ ap₂ bit_xor t z in
        omega arith

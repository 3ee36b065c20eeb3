-- The parts of a masked compression open to the standard's, with any addition that adds; so each hash in shares keeps
-- openings.
use Prim.Native.Nat.{ℕ, ◌-◌, ◌*◌, ◌/◌, ◌^◌, ◌≤◌, ◌<◌}
use mathlib.Core.Path.{◌≡◌, refl, ap, ◌∙◌}
use mathlib.Core.List.{List}
use native.Mathlib.Nat.{lt_of_lt_of_le}
use native.Mathlib.Omega.{arith}
use lib.Bits.{bit_xor, xor_lt, xor_zero_r}
use lib.Dec.{lit<, lit≤}
use lib.ListN.{length, length-map, length-replicate}
use lib.Pow.{pow_mono}
use Rattle.words.proofs.Words.{plus_lt}
use Rattle.rules.specs.Supply.{Words, opened}
use Rattle.rules.specs.Convert.{Adder}
use Rattle.rules.specs.Shares.{add}
use Rattle.rules.specs.Sha1.{open_words, public, rotl}
use Rattle.rules.specs.Counts.{add_draws, hash_of}
use Rattle.rules.proofs.Rule.{said}
use Rattle.rules.proofs.Openings.{opened_zeros}
use Rattle.rules.proofs.Addition.{split_rule}
use Rattle.rules.proofs.Conversion.{Adds, add_adds}
use Rattle.rules.proofs.Functions.{plain_is, plain_lt, xors, chosen_rule, rotated_opens, rotl_is, ROTL-lt}
use Rattle.rules.proofs.Functions.{fallen_opens, fallen_lt}
use Rattle.rules.proofs.Goods.{Goods, goods_of}
use Rattle.rules.proofs.Compressions.{Keeps}
use Rattle.rules.proofs.MaskedHmac.{Keeps as KeepsHash}
use Rattle.rules.proofs.Sizes.{hash_keeps}

-- n shares of a word of k bits
abbrev pub Masks : ℕ → ℕ → List ℕ → ℕ → Type 0
Masks k n x X = (length x ≡ n) × (opened x ≡ X) × (X < 2 ^ k)

pub masks : (k n m : ℕ) (s : List ℕ) → length s ≡ m * n → Words k (open_words n m s)
    → Goods (Masks k n) m s (open_words n m s)
masks k n m s l u = goods_of n m s l (λ i x h e. (h, e, u i))

module _ (k n : ℕ) (some : 0 < n) where
  shown : (v : ℕ) → v < 2 ^ k → Masks k n (public n v) v
  unfolding public opened
  shown v b =
      (omega (arith, length-replicate {A = ℕ} (n - 1) 0), ap (bit_xor v) (opened_zeros (n - 1)) ∙ xor_zero_r v, b)

  module _ (big : 32 ≤ k) (d : ℕ → ℕ) (adder : Adder) (adds : Adds k d adder) where
    fitting : (v : ℕ) → v < 2 ^ 32 → v < 2 ^ k
    fitting v b = lt_of_lt_of_le b (pow_mono big)

    keeps_opening : Keeps k n (d n) adder (λ v. v < 2 ^ k) (Masks k n)
    keeps_opening =
        record {
          size = λ g. g.0;
          adds = λ {x} {y} {X} {Y} g h.
              said (adds n x y g.0 h.0 (rw g.1 g.2) (rw h.1 h.2)) refl
              (λ z p. (p.0, p.1 ∙ rw (g.1, h.1), plus_lt k X Y));
          chooses = λ {b} {c} {e} {B} {C} {E} q g h i.
              let same = plain_is k q B C E i.2 in
              said (chosen_rule n b c e g.0 h.0 i.0 q) refl
              (λ z p. (p.0, p.1 ∙ rw (g.1, h.1, i.1) same, rw (← same) (plain_lt k q B C E g.2 h.2 i.2)));
          xors = λ {x} {y} {X} {Y} g h.
              let p = xors n x y g.0 h.0 in (p.0, p.1 ∙ rw (g.1, h.1), xor_lt k X Y g.2 h.2);
          turns = λ {x} {X} r b g.
              let rotates = rotl_is k r X (b big) g.2 in
              (length-map x (rotl k r) ∙ g.0, rotated_opens k r x ∙ rw g.1 rotates, ROTL-lt k r X g.2);
          falls = λ {x} {X} r g.
              (length-map x (λ v. v / 2 ^ r) ∙ g.0, fallen_opens r x ∙ rw g.1, fallen_lt k r X g.2);
          shows = shown;
          fits = fitting;
        }

-- the hashes as the calls take them, at 32 bits
pub hash_opens : (code n : ℕ) → 0 < n → KeepsHash (hash_of 32 code) n (λ v. v < 2 ^ 32) (Masks 32 n)
hash_opens code n some =
    hash_keeps 32 (keeps_opening 32 n some (lit≤ tt) (add_draws 32) (add 32) (add_adds 32 (lit< tt)))
    (λ v b. said (split_rule n v some) refl (λ z g. (g.0, g.1, b))) code

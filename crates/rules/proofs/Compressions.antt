-- Masked compressions, once for all that is said of them: `Good x X` is what is kept of the shares x of the word X.
-- What SHA-1's and SHA-256's have in common: the sum of a round, the rounds, words of the schedule, the new chain.
use Prim.Native.Nat.{ℕ, zero, suc, ◌+◌, ◌-◌, ◌*◌, ◌/◌, ◌^◌, ◌≤◌, ◌<◌}
use mathlib.Core.Path.{◌≡◌, sym, ap₂, ◌∙◌, subst}
use mathlib.Core.Bool.{Bool, true}
use mathlib.Core.List.{List, [], ◌∷◌, ◌++◌, map, append-nil}
use native.Mathlib.Nat.{suc-mul, zero-mul, mul_comm, mul-sub}
use native.Mathlib.Numerals.{add-one}
use native.Mathlib.Omega.{arith}
use lib.Bits.{bit_xor}
use lib.Dec.{lit<, leb}
use lib.ListN.{length, get_or, drop, drop_of_length-le}
use lib.Seq.{drop-cons, append_snoc}
use borrow.Author.Tests.{leb-true}
use Rattle.words.specs.Word.{Word, plus}
use Rattle.rules.specs.Supply.{Draw, Rule, Sharing}
use Rattle.rules.specs.Numbers.{both}
use Rattle.rules.specs.Shares.{each}
use Rattle.rules.specs.Convert.{Adder}
use Rattle.rules.specs.Counts.{and_draws, quarter_ands}
use Rattle.rules.specs.Hash.{rounds as rounds_of, sums as sums_of}
use Rattle.rules.specs.Standard.{ROTL, f}
use Rattle.rules.specs.Sha1.{word, public, rotated, chosen, summed, rounds, ago, sums}
use Rattle.rules.proofs.Rule.{give, bind, counted}
use Rattle.rules.proofs.Allowed.{both_true}
use Rattle.rules.proofs.Goods.{Goods, one, join, how_many, goods_size, word_of}

-- words below 2^32, tested one by one
abbrev small : List ℕ → Bool
small [] = true
small (v ∷ vs) = both (leb (suc v) (2 ^ 32)) (small vs)

pub small_at : (vs : List ℕ) → small vs ≡ true → (i : ℕ) → get_or vs i 0 < 2 ^ 32
small_at [] h i = lit< tt
small_at (v ∷ vs) h zero = leb-true (suc v) (2 ^ 32) (both_true (leb (suc v) (2 ^ 32)) (small vs) h).0
small_at (v ∷ vs) h (suc i) = small_at vs (both_true (leb (suc v) (2 ^ 32)) (small vs) h).1 i

-- what the parts keep, with an addition that draws d words; Fits says which public values may enter
pub record Keeps (k n d : ℕ) (adder : Adder) (Fits : ℕ → Type 0) (Good : List ℕ → ℕ → Type 0) : Type 0 where
  pub size : {x : List ℕ} {X : ℕ} → Good x X → length x ≡ n
  pub adds : {x y : List ℕ} {X Y : ℕ} → Good x X → Good y Y → Rule d (λ z. Good z (plus k X Y)) (adder x y)
  pub chooses : {b c e : List ℕ} {B C E : ℕ} (q : ℕ) → Good b B → Good c C → Good e E
      → Rule (quarter_ands q * and_draws n) (λ z. Good z (f k q B C E)) (chosen q b c e)
  pub xors : {x y : List ℕ} {X Y : ℕ} → Good x X → Good y Y → Good (each bit_xor x y) (bit_xor X Y)
  pub turns : {x : List ℕ} {X : ℕ} (r : ℕ) → (32 ≤ k → r ≤ k) → Good x X → Good (rotated k r x) (ROTL k r X)
  pub falls : {x : List ℕ} {X : ℕ} (r : ℕ) → Good x X → Good (map (λ v. v / 2 ^ r) x) (X / 2 ^ r)
  pub shows : (v : ℕ) → Fits v → Good (public n v) v
  pub fits : (v : ℕ) → v < 2 ^ 32 → Fits v

-- what m rounds from round t on draw, each by its number
unfoldable pub all_of : (ℕ → ℕ) → ℕ → ℕ → ℕ
all_of cost zero t = 0
all_of cost (suc m) t = cost t + all_of cost m (t + 1)

module _ {k n d : ℕ} {adder : Adder} {Fits : ℕ → Type 0} {Good : List ℕ → ℕ → Type 0}
    (keeps : Keeps k n d adder Fits Good) where
  pub part : {m : ℕ} {s S : List ℕ} (w : ℕ) → w < m → Goods Good m s S → Good (word n w s) (get_or S w 0)
  part = word_of (λ x X g. keeps.size g)

  pub summed_rule : {t e g c w : List ℕ} {T E G C W : ℕ} → Good t T → Good e E → Good g G → Good c C → Good w W
      → Rule (4 * d) (λ z. Good z (plus k (plus k (plus k (plus k T E) G) C) W)) (summed adder t e g c w)
  unfolding summed
  summed_rule gt ge gg gc gw =
      counted
      (bind (keeps.adds gt ge) (λ x gx. bind (keeps.adds gx gg) (λ y gy.
      bind (keeps.adds gy gc) (λ z gz. keeps.adds gz gw))))
      (omega arith)

  -- ---- the rounds, of a state of so many words
  pub rounds_rule : {words : ℕ} (cost : ℕ → ℕ) (round : ℕ → Sharing → Sharing → Draw Sharing)
      (round_of : ℕ → Word → List Word → List Word)
      → ((t : ℕ) (w s S : List ℕ) (W : ℕ) → Good w W → Goods Good words s S
      → Rule (cost t) (λ z. Goods Good words z (round_of t W S)) (round t w s))
      → (u U : List ℕ) (m t : ℕ) (s S : List ℕ) → ((i : ℕ) → i < t + m → Good (word n i u) (get_or U i 0))
      → Goods Good words s S
      → Rule (all_of cost m t) (λ z. Goods Good words z (rounds_of round_of U m t S)) (rounds round n u m t s)
  unfolding rounds rounds_of all_of
  rounds_rule {words} cost round round_of rule u U zero t s S gw g = give (λ z. Goods Good words z S) s g
  rounds_rule cost round round_of rule u U (suc m) t s S gw g =
      bind (rule t (word n t u) s S (get_or U t 0) (gw t (omega arith)) g) (λ z gz.
      rounds_rule cost round round_of rule u U m (t + 1) z _ (λ i h. gw i (omega arith)) gz)

  -- ---- a word of the schedule, from its end
  pub ago_of : {m : ℕ} {w W : List ℕ} (j : ℕ) → 0 < j → j ≤ m → Goods Good m w W
      → Good (ago n j w) (get_or W (length W - j) 0)
  unfolding ago word
  ago_of {m} {w} {W} j h l g =
      let size = goods_size (λ x X g. keeps.size g) g in
      let e : length w - j * n ≡ (m - j) * n =
      ap₂ (λ a b. a - b) (size ∙ mul_comm m n) (mul_comm j n) ∙ sym (mul-sub n m j) ∙ mul_comm n (m - j) in
      rw (e, how_many g) (part (m - j) (omega arith) g)

  -- ---- the new chain, of c words
  module _ {c : ℕ} {h s H S : List ℕ} (gh : Goods Good c h H) (gs : Goods Good c s S) where
    sums_next : (i : ℕ) → i < c
        → sums_of k (drop i H) (drop i S) ≡ plus k (get_or H i 0) (get_or S i 0) ∷ sums_of k (drop (i + 1) H)
        (drop (i + 1) S)
    unfolding sums_of
    sums_next i l = rw (
      add-one i,
      drop-cons H i 0 (omega (arith, how_many gh)),
      drop-cons S i 0
          (omega (arith, how_many gs)),
    )

    sums_end : sums_of k (drop c H) (drop c S) ≡ []
    unfolding sums_of
    sums_end = rw (drop_of_length-le H {i = c} (omega (arith, how_many gh)))

    pub sums_rule : (m i : ℕ) (z Z : List ℕ) → i + m ≡ c → Goods Good i z Z
        → Rule (m * d) (λ z. Goods Good c z (Z ++ sums_of k (drop i H) (drop i S))) (sums adder n h s m i z)
    unfolding sums
    sums_rule zero i z Z e g =
        let q : i ≡ c = omega arith in
        let all = subst (λ t. Goods Good t z Z) q g in
        rw (q, sums_end, append-nil) (counted (give (λ z. Goods Good c z Z) z all) (sym (zero-mul d)))
    sums_rule (suc m) i z Z e g =
        let sum = keeps.adds (part i (omega arith) gh) (part i (omega arith) gs) in
        rw (sums_next i (omega arith), ← append_snoc Z)
        (counted (bind sum (λ x gx. sums_rule m (i + 1) (z ++ x) _ (omega arith) (join g (one gx))))
        (omega (arith, suc-mul m d)))

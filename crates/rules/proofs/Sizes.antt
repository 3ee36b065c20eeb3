-- How many words masked hashes and HMAC draw and how many shares they make, whatever the shares open to.
use Prim.Native.Nat.{ℕ, zero, suc, ◌+◌, ◌-◌, ◌*◌, ◌/◌, ◌^◌, ◌≤◌, ◌<◌}
use mathlib.Core.Path.{◌≡◌, refl, ap, ◌∙◌}
use mathlib.Core.List.{List}
use native.Mathlib.Nat.{suc-mul, mul-suc, zero-mul, add-mul, add-zero, mul_assoc}
use native.Mathlib.Omega.{arith}
use lib.ListN.{length, get_or, length-map, length-replicate}
use Rattle.rules.specs.Supply.{Rule, split}
use Rattle.rules.specs.Numbers.{largest}
use Rattle.rules.specs.Shares.{add}
use Rattle.rules.specs.Convert.{Adder}
use Rattle.rules.specs.Counts.{and_draws, add_draws, quarter_ands, rounds_ands, compress_ands, compress256_ands}
use Rattle.rules.specs.Counts.{key_draws, hmac_draws, standard_of, hash_by, hash_of}
use Rattle.rules.specs.Hash.{Hash, chain_words, digest_bytes, all_bytes}
use Rattle.rules.specs.Sha1.{open_words, public, rotl}
use Rattle.rules.specs.Stream.{state_room}
use Rattle.rules.specs.Hmac.{Masked, split_key, hmac_shares, hmac_tag}
use Rattle.rules.proofs.Rule.{give, bind, said, counted}
use Rattle.rules.proofs.Addition.{add_loop_rule, split_rule}
use Rattle.rules.proofs.Functions.{xors, chosen_rule}
use Rattle.rules.proofs.Bytes.{length_all_bytes}
use Rattle.rules.proofs.Goods.{Goods, length_open, goods_size, goods_of}
use Rattle.rules.proofs.Hashes.{Proper}
use Rattle.rules.proofs.Compressions.{small_at, Keeps}
use Rattle.rules.proofs.MaskedSha1.{compression_of as sha1_of, compress_rule as sha1_rule}
use Rattle.rules.proofs.MaskedSha256.{compression_of as sha256_of, compress_rule as sha256_rule}
use Rattle.rules.proofs.MaskedHmac.{Keeps as KeepsHash, hmac_rule}
use Rattle.rules.proofs.Keys.{split_key_rule}

-- what is asked of an addition that draws d n words
abbrev pub Sizes : (ℕ → ℕ) → Adder → Type 0
Sizes d adder = (n : ℕ) (x y : List ℕ) → length x ≡ n → length y ≡ n → Rule (d n) (λ z. length z ≡ n) (adder x y)

pub add_sizes : (k : ℕ) → 0 < k → Sizes (add_draws k) (add k)
add_sizes k h n x y lx ly = said (add_loop_rule k n x y h lx ly) refl (λ z g. g.0)

abbrev pub Sized : ℕ → List ℕ → ℕ → Type 0
Sized n x X = length x ≡ n

-- ---- in ANDs
rounds_ands_is : (a m t : ℕ) → rounds_ands a m t ≡ rounds_ands 0 m t + m * (4 * a)
unfolding rounds_ands
rounds_ands_is a zero t = omega (arith, zero-mul (4 * a))
rounds_ands_is a (suc m) t = omega (arith, rounds_ands_is a m (t + 1), suc-mul m (4 * a))

sha1_is : (ands n : ℕ) → sha1_of (ands * and_draws n) n ≡ compress_ands ands * and_draws n
unfolding compress_ands
sha1_is ands n =
    let e : rounds_ands ands 80 0 + 5 * ands ≡ rounds_ands 0 80 0 + 325 * ands =
    omega (arith, rounds_ands_is ands 80 0) in
    rw (e, add-zero (rounds_ands 0 80 0))
    (omega (arith, add-mul (rounds_ands 0 80 0) (325 * ands) (and_draws n), mul_assoc 325 ands (and_draws n)))

sha256_is : (ands n : ℕ) → sha256_of (ands * and_draws n) n ≡ compress256_ands ands * and_draws n
sha256_is ands n =
    let e : compress256_ands ands ≡ 128 + 600 * ands = omega arith in
    rw e (omega (arith, add-mul 128 (600 * ands) (and_draws n), mul_assoc 600 ands (and_draws n)))

-- ---- whatever the parts of a compression keep, a hash in shares keeps
module _ {k n : ℕ} (ands : ℕ) {adder : Adder} {Fits : ℕ → Type 0} {Good : List ℕ → ℕ → Type 0}
    (keeps : Keeps k n (ands * and_draws n) adder Fits Good)
    (splits : (v : ℕ) → Fits v → Rule (n - 1) (λ x. Good x v) (split n v)) where
  compresses : (code : ℕ) {h C block B : List ℕ} → (let M = hash_by k adder ands code in
      Goods Good (chain_words M.standard) h C → Goods Good 16 block B
      → Rule (M.draws n) (λ z. Goods Good (chain_words M.standard) z (M.standard.compress C B))
      (M.compress n h block))
  compresses zero gh gb = counted (sha1_rule keeps gh gb) (sha1_is ands n)
  compresses (suc code) gh gb = counted (sha256_rule keeps gh gb) (sha256_is ands n)

  starts : (code i : ℕ) → Fits (get_or (standard_of k code).start i 0)
  starts zero i = keeps.fits _ (small_at (standard_of k 0).start refl i)
  starts (suc code) i = keeps.fits _ (small_at (standard_of k (suc code)).start refl i)

  pub hash_keeps : (code : ℕ) → KeepsHash (hash_by k adder ands code) n Fits Good
  hash_keeps code =
      record {
        size = λ x X g. keeps.size g;
        compresses = compresses code;
        shows = keeps.shows;
        xors = keeps.xors;
        splits_one = splits;
        starts = λ i b. starts code i;
        fits = keeps.fits;
      }

module _ (k n : ℕ) (some : 0 < n) (ands : ℕ) (adder : Adder) (sizes : Sizes (λ m. ands * and_draws m) adder) where
  keeps_size : Keeps k n (ands * and_draws n) adder (λ v. Unit {0}) (Sized n)
  unfolding public
  keeps_size =
      record {
        size = λ g. g;
        adds = λ {x} {y} g h. sizes n x y g h;
        chooses = λ {b} {c} {e} q g h i. said (chosen_rule n b c e g h i q) refl (λ z p. p.0);
        xors = λ {x} {y} g h. (xors n x y g h).0;
        turns = λ {x} r b g. length-map x (rotl k r) ∙ g;
        falls = λ {x} r g. length-map x (λ v. v / 2 ^ r) ∙ g;
        shows = λ v u. omega (arith, length-replicate {A = ℕ} (n - 1) 0);
        fits = λ v b. tt;
      }

  pub hash_sizes : (code : ℕ) → KeepsHash (hash_by k adder ands code) n (λ v. Unit {0}) (Sized n)
  hash_sizes = hash_keeps ands keeps_size (λ v u. said (split_rule n v some) refl (λ z g. g.0))

-- the hashes as the calls take them, at any width
pub hash_size : (k : ℕ) → 0 < k → (code n : ℕ) → 0 < n → KeepsHash (hash_of k code) n (λ v. Unit {0}) (Sized n)
hash_size k wide code n some = hash_sizes k n some k (add k) (add_sizes k wide) code

-- ---- any hash in shares
module _ (M : Masked) (n : ℕ) (some : 0 < n) (keeps : KeepsHash M n (λ v. Unit {0}) (Sized n)) where
  abbrev H : Hash
  H = M.standard

  pub words_size : (m : ℕ) (s : List ℕ) → length s ≡ m * n → Goods (Sized n) m s (open_words n m s)
  words_size m s l = goods_of n m s l (λ i x h e. h)

  pub compress_sized : (h block : List ℕ) → length h ≡ chain_words H * n → length block ≡ 16 * n
      → Rule (M.draws n) (λ z. length z ≡ chain_words H * n) (M.compress n h block)
  compress_sized h block lh lb =
      said (keeps.compresses (words_size (chain_words H) h lh) (words_size 16 block lb)) refl
      (λ z g. goods_size keeps.size g)

  pub split_key_sized : Proper H → (key : List ℕ)
      → Rule (key_draws M n (length key)) (λ z. length z ≡ 16 * n) (split_key M n key)
  split_key_sized proper key =
      said (split_key_rule keeps proper some key (λ m i. tt)) refl (λ z g. goods_size keeps.size g)

  module _ (proper : Proper H) (key text : List ℕ) (size : length key ≡ 16 * n) where
    pub hmac_shares_sized : Rule (hmac_draws M n (length text)) (λ z. length z ≡ chain_words H * n)
        (hmac_shares M n key text)
    hmac_shares_sized =
        said (hmac_rule keeps proper some text (λ i. tt) (words_size 16 key size)) refl (λ z g. goods_size keeps.size g)

    pub hmac_tag_sized : Rule (hmac_draws M n (length text)) (λ t. length t ≡ digest_bytes H) (hmac_tag M n key text)
    unfolding hmac_tag
    hmac_tag_sized =
        counted
        (bind hmac_shares_sized (λ z g.
        give (λ t. length t ≡ digest_bytes H) (all_bytes H.word_bytes (open_words n (chain_words H) z))
        (length_all_bytes H.word_bytes (open_words n (chain_words H) z)
        ∙ ap (λ t. t * H.word_bytes) (length_open n (chain_words H) z))))
        (omega arith)

-- ---- in closed form
pub and_draws_twice : (m : ℕ) → and_draws (suc m) * 2 ≡ suc m * m
unfolding and_draws
and_draws_twice zero = refl
and_draws_twice (suc m) = omega (arith, and_draws_twice m, suc-mul (suc m) (suc m), mul-suc (suc m) m)

pub and_count : (n : ℕ) → and_draws n ≡ n * (n - 1) / 2
unfolding and_draws
and_count zero = refl
and_count (suc m) = let e : suc m - 1 ≡ m = omega arith in rw e (omega (arith, and_draws_twice m))

-- 5,220 n(n − 1) words a compression of SHA-1, 9,664 n(n − 1) one of SHA-256
abbrev pub each_draws : ℕ → ℕ → ℕ
each_draws zero n = 5220 * (n * (n - 1))
each_draws (suc code) n = 9664 * (n * (n - 1))

pub compress_count : (code n : ℕ) → (hash_of 32 code).draws n ≡ each_draws code n
unfolding compress_ands rounds_ands quarter_ands and_draws
compress_count zero zero = refl
compress_count zero (suc m) = let e : suc m - 1 ≡ m = omega arith in rw e (omega (arith, and_draws_twice m))
compress_count (suc code) zero = refl
compress_count (suc code) (suc m) = let e : suc m - 1 ≡ m = omega arith in rw e (omega (arith, and_draws_twice m))

-- a chain of a state has room for its words at every share count
pub chain_fits : (k code n : ℕ) → n ≤ largest → chain_words (standard_of k code) * n ≤ state_room
chain_fits k zero n few = omega arith
chain_fits k (suc code) n few = omega arith

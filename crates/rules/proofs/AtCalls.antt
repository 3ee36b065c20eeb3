-- The rules where a call's tests are passed, of 1 to 16 shares of 32 bits, with their counts in closed form; and what
-- a compression comes to. crates/claims takes them to the calls.
use Prim.Native.Nat.{ℕ, zero, suc, ◌+◌, ◌-◌, ◌*◌, ◌/◌, ◌%◌, ◌^◌, ◌≤◌, ◌<◌}
use mathlib.Core.Path.{◌≡◌, refl, sym, ap, ◌∙◌}
use mathlib.Core.List.{List, ◌∷◌, ◌++◌}
use native.Mathlib.Nat.{add-zero, suc-mul, mul_assoc, mul-le-mul_left, pow-suc}
use native.Mathlib.Omega.{arith}
use lib.Bits.{bit_xor, bit_and, xor_comm}
use lib.Dec.{lit<, lit≤}
use lib.ListN.{length, take, drop, replicate, length-drop, take-append-drop}
use lib.Pow.{pow_pos}
use lib.Seq.{take-append-le, drop-append-le}
use Rattle.words.proofs.Words.{xor_back}
use Rattle.rules.specs.Supply.{Rule, Shares, Words, opened, total}
use Rattle.rules.specs.declared.Answer.{Answer}
use Rattle.rules.specs.Numbers.{largest}
use Rattle.rules.specs.Shares.{refresh, expand, and, add}
use Rattle.rules.specs.Convert.{to_bool, to_arith}
use Rattle.rules.specs.Short.{to_arith_short}
use Rattle.rules.specs.Hash.{Hash, chain_words, digest_bytes, words_of, key_block, hmac}
use Rattle.rules.specs.Sha1.{open_words}
use Rattle.rules.specs.Hmac.{Masked, chain_room, used, chain_of, split_key, hmac_tag}
use Rattle.rules.specs.Counts.{and_draws, add_draws, refresh_draws, to_bool_draws, to_arith_draws, short_draws}
use Rattle.rules.specs.Counts.{key_draws, standard_of, hash_of}
use Rattle.rules.specs.Calls.{call, compressed, compress_call, a2b_call, b2a_call, hmac_call}
use Rattle.rules.specs.Outcome.{Power, Allowed, Asks, Done, Settles, Makes}
use Rattle.rules.proofs.Loops.{length_used}
use Rattle.rules.proofs.Rule.{give, bind, said, counted}
use Rattle.rules.proofs.Openings.{opened_lt}
use Rattle.rules.proofs.Pairs.{refresh_rule, and_rule}
use Rattle.rules.proofs.Addition.{expand_rule}
use Rattle.rules.proofs.Conversion.{Adds, words_take, words_drop, add_adds, refresh_refreshes, to_bool_rule}
use Rattle.rules.proofs.Conversion.{draws_one, draws_power, to_arith_rule, to_arith_opens, there_and_back}
use Rattle.rules.proofs.Conversion.{back_and_there}
use Rattle.rules.proofs.Short.{to_arith_short_rule, short_closed}
use Rattle.rules.proofs.Allowed.{power_within}
use Rattle.rules.proofs.MaskedHmac.{Keeps}
use Rattle.rules.proofs.Keys.{short_draws_lem, long_draws}
use Rattle.rules.proofs.Sizes.{Sized, add_sizes, compress_sized, hmac_tag_sized, split_key_sized, hash_size}
use Rattle.rules.proofs.Sizes.{and_draws_twice, and_count, each_draws, compress_count}
use Rattle.rules.proofs.Opens.{masks, hash_opens}
use Rattle.rules.proofs.Tags.{hash_proper, hash_chains, split_key_opens, hmac_tag_is}
use Rattle.rules.proofs.Goods.{goods_open, goods_size}
use Rattle.rules.proofs.Outcomes.{says_power, says_count, says_eq, passed}
use Rattle.rules.proofs.Outcomes.{call_settles, call_asked, call_draws, call_past}

-- ---- counts in closed form
pub add_count : (n : ℕ) → add_draws 32 n ≡ 16 * (n * (n - 1))
unfolding and_draws
add_count zero = refl
add_count (suc m) = let e : suc m - 1 ≡ m = omega arith in rw e (omega (arith, and_draws_twice m))

-- W of n = 2^p shares: 32n(n−1) − 15pn
and_double : (m : ℕ) → and_draws (m * 2) ≡ 4 * and_draws m + m
unfolding and_draws
and_double zero = refl
and_double (suc m) = let e : suc m * 2 ≡ suc (suc (m * 2)) = omega arith in rw e (omega (arith, and_double m))

to_bool_sum : (p : ℕ) → to_bool_draws (add_draws 32) (2 ^ p) + 15 * (p * 2 ^ p) ≡ 2 * add_draws 32 (2 ^ p)
unfolding and_draws
to_bool_sum zero = omega (arith, draws_one (add_draws 32) 1 (lit≤ tt))
to_bool_sum (suc p) =
    let m = 2 ^ p in
    let even : m * 2 / 2 ≡ m = omega arith in
    let halves = draws_power (add_draws 32) (m * 2) (suc p) (omega (arith, pow_pos p)) (sym (pow-suc 2 p)) in
    rw pow-suc (omega (arith, rw even at halves, to_bool_sum p, and_double m, suc-mul p (m * 2), mul_assoc p m 2))

pub to_bool_count : (p : ℕ) → (let n = 2 ^ p in to_bool_draws (add_draws 32) n ≡ 32 * (n * (n - 1)) - 15 * (p * n))
to_bool_count p = omega (arith, to_bool_sum p, add_count (2 ^ p))

-- a key of l bytes, split and, where it is over 64, hashed
module _ (code n l : ℕ) where
  pub short_count : l ≤ 64 → key_draws (hash_of 32 code) n l ≡ 16 * (n - 1)
  short_count = short_draws_lem (hash_of 32 code) n l

  pub long_count : 64 < l
      → key_draws (hash_of 32 code) n l ≡ (l + 3) / 4 * (n - 1) + ((l + 8) / 64 + 1) * each_draws code n
  long_count h =
      long_draws (hash_of 32 code) n l h ∙ ap (λ d. (l + 3) / 4 * (n - 1) + ((l + 8) / 64 + 1) * d)
      (compress_count code n)

-- ---- the rules that draw a word for each share or pair
pub refresh_law : (n : ℕ) (x : List ℕ) → length x ≡ n → Rule (n * (n - 1) / 2) (Shares n (opened x)) (refresh x)
refresh_law n x size = counted (refresh_rule n x size) (and_count n)

pub expand_law : (n : ℕ) (x : List ℕ) → length x ≡ n → Rule n (Shares (2 * n) (opened x)) (expand x)
expand_law n x size = said (expand_rule n x size) refl (λ z g. (g.0 ∙ omega arith, g.1))

module _ (n : ℕ) (x y : List ℕ) (sizes : (length x ≡ n) × (length y ≡ n)) where
  pub and_law : Rule (n * (n - 1) / 2) (Shares n (bit_and (opened x) (opened y))) (and x y)
  and_law = counted (and_rule n x y sizes.0 sizes.1) (and_count n)

  pub add_law : Rule (16 * (n * (n - 1))) (λ z. length z ≡ n) (add 32 x y)
  add_law = counted (add_sizes 32 (lit< tt) n x y sizes.0 sizes.1) (add_count n)

adds : Adds 32 (add_draws 32) (add 32)
adds = add_adds 32 (lit< tt)

-- Boolean to arithmetic at any width
pub to_arith_keeps_lem : (k : ℕ) → 0 < k → (x : List ℕ) → 0 < length x → Words k x
    → (ws : List ℕ) (at : ℕ) → Words k ws → total (to_arith k (add k) refresh x ws at).0 % 2 ^ k ≡ opened x
to_arith_keeps_lem k wide x some u ws at =
    to_arith_opens k (add_draws k) (add k) (add_adds k wide) refresh_draws refresh refresh_refreshes x some
    (opened_lt k x u) ws at

-- the short conversion
pub short_law : (n : ℕ) → Power n → (x : List ℕ) → length x ≡ n
    → Rule (7 * 2 ^ (n - 1) - 3 * n - 4) (λ a. length a ≡ n) (to_arith_short 32 x)
short_law n count x size =
    let some = (power_within n (passed (says_power n) count)).0 in
    said (to_arith_short_rule 32 x) (ap short_draws size ∙ short_closed n some) (λ z g. g ∙ size)

module _ (n : ℕ) (count : Allowed n) where
  pub some : 0 < n
  some = count.0

  -- ---- the conversions
  module _ (x : List ℕ) (size : length x ≡ n) (words : Words 32 x) where
    sized : 0 < length x
    sized = rw size some

    pub to_bool_law : Rule (to_bool_draws (add_draws 32) n) (Shares n (total x % 2 ^ 32)) (to_bool (add 32) x)
    to_bool_law =
        said (to_bool_rule 32 (add_draws 32) (add 32) adds x sized words)
        (ap (to_bool_draws (add_draws 32)) size) (λ z g. (g.0 ∙ size, g.1))

    small : opened x < 2 ^ 32
    small = opened_lt 32 x words

    pub to_arith_law :
        Rule (n - 1 + to_bool_draws (add_draws 32) n + 16 * (n * (n - 1)) + n * (n - 1) / 2) (λ a. length a ≡ n)
        (to_arith 32 (add 32) refresh x)
    to_arith_law =
        said (to_arith_rule 32 (add_draws 32) (add 32) adds refresh_draws refresh refresh_refreshes x sized small)
        (ap (to_arith_draws (add_draws 32) refresh_draws) size ∙ omega (arith, add_count n, and_count n))
        (λ z g. g ∙ size)

    pub to_arith_sums : (ws : List ℕ) → Words 32 ws → total (to_arith 32 (add 32) refresh x ws 0).0 % 2 ^ 32 ≡ opened x
    to_arith_sums ws = to_arith_keeps_lem 32 (lit< tt) x sized words ws 0

    pub there_back : (ws : List ℕ) → Words 32 ws
        → Makes 32 (a2b_call 32 n (to_arith 32 (add 32) refresh x ws 0).0) (λ y. opened y ≡ opened x)
    unfolding call
    there_back ws w =
        record {
          made = λ came vs w' h.
              rw h
              (there_and_back 32 (add_draws 32) (add 32) adds refresh_draws refresh refresh_refreshes x sized small
              ws vs 0 0 w);
        }

    pub back_there : (ws : List ℕ) → Words 32 ws
        → Makes 32 (b2a_call 32 n (to_bool (add 32) x ws 0).0) (λ b. total b % 2 ^ 32 ≡ total x % 2 ^ 32)
    unfolding call
    back_there ws w =
        record {
          made = λ came vs w' h.
              rw h
              (back_and_there 32 (add_draws 32) (add 32) adds refresh_draws refresh refresh_refreshes x
              ws vs 0 0 sized words w');
        }

-- ---- a hash in shares, and a tag
module _ (code n : ℕ) (count : Allowed n) where
  abbrev M : Masked
  M = hash_of 32 code

  abbrev H : Hash
  H = standard_of 32 code

  sized_so : Keeps M n (λ v. Unit {0}) (Sized n)
  sized_so = hash_size 32 (lit< tt) code n count.0

  pub split_key_law : (key : List ℕ) → Rule (key_draws M n (length key)) (λ z. length z ≡ 16 * n) (split_key M n key)
  split_key_law = split_key_sized M n count.0 sized_so (hash_proper 32 code)

  pub hmac_tag_law : (key text : List ℕ) → length key ≡ 16 * n
      → Rule (((length text + 8) / 64 + 4) * each_draws code n) (λ t. length t ≡ digest_bytes H) (hmac_tag M n key text)
  hmac_tag_law key text size =
      counted (hmac_tag_sized M n count.0 sized_so (hash_proper 32 code) key text size)
      (ap (λ d. ((length text + 8) / 64 + 4) * d) (compress_count code n))

  -- its shares open to the key block
  pub split_opens : (key : List ℕ) → Words 8 key → (ws : List ℕ)
      → open_words n 16 (split_key M n key ws 0).0 ≡ words_of 4 16 (key_block H key)
  split_opens key keys ws =
      split_key_opens M n count.0 (hash_proper 32 code) (hash_chains code) (hash_opens code n count.0) key ws 0
      keys

  pub tags : (key text : List ℕ) → Words 8 key → Words 8 text → (ws : List ℕ)
      → Makes 32 (hmac_call M n (split_key M n key ws 0).0 text) (λ tag. tag ≡ hmac H key text)
  unfolding call
  tags key text keys texts ws =
      let shares = (split_key M n key ws 0).0 in
      record {
        made = λ came vs w h.
            rw h
            (hmac_tag_is M n count.0 (hash_proper 32 code) (hash_chains code) (hash_opens code n count.0) key text
            shares vs 0 keys texts ((split_key_law key).makes ws 0) (split_opens key keys ws));
      }

-- ---- several words, opened
open_front : (n m : ℕ) (s t : List ℕ) → length s ≡ m * n → open_words n m (s ++ t) ≡ open_words n m s
unfolding open_words
open_front n zero s t h = refl
open_front n (suc m) s t h =
    let l : n ≤ length s = omega (arith, suc-mul m n) in
    rw (take-append-le n s t l, drop-append-le n s t l)
    (ap (λ (u : List ℕ). opened (take n s) ∷ u)
    (open_front n m (drop n s) t (length-drop n s ∙ omega (arith, suc-mul m n))))

open_used : (H : Hash) (n : ℕ) (s : List ℕ) → length (used H n s) ≡ chain_words H * n
    → open_words n (chain_words H) (used H n s) ≡ open_words n (chain_words H) s
unfolding used
open_used H n s h =
    let m = chain_words H in
    sym (open_front n m (take (m * n) s) (drop (m * n) s) h) ∙ ap (open_words n m) (take-append-drop (m * n) s)

pub words_opened : (k n m : ℕ) (s : List ℕ) → Words k s → Words k (open_words n m s)
unfolding open_words
words_opened k n zero s w i = pow_pos k
words_opened k n (suc m) s w zero = opened_lt k (take n s) (words_take k n s w)
words_opened k n (suc m) s w (suc i) = words_opened k n m (drop n s) (words_drop k n s w) i

-- ---- one compression: a call whose output is the chain record
module _ (code n : ℕ) (chain block : List ℕ) (whole : length chain ≡ chain_room (standard_of 32 code)) where
  abbrev C : Masked
  C = hash_of 32 code

  abbrev m : ℕ
  m = chain_words (standard_of 32 code)

  abbrev front : List ℕ
  front = used (standard_of 32 code) n chain

  front_size : n ≤ largest → length front ≡ m * n
  front_size few = length_used (standard_of 32 code) n chain (rw whole (mul-le-mul_left m few))

  compress_law : Allowed n → length block ≡ 16 * n
      → Rule (each_draws code n) (λ z. Unit {0}) (compressed C n chain block)
  compress_law c e =
      counted
      (bind (compress_sized C n c.0 (hash_size 32 (lit< tt) code n c.0) front block (front_size c.1) e)
      (λ z g. give (λ z. Unit {0}) (chain_of (standard_of 32 code) n z) tt))
      (add-zero _ ∙ compress_count code n)

  module _ (ws : List ℕ) where
    abbrev o : Answer × List ℕ
    o = compress_call C n chain block ws

    pub compress_outcome : Settles {A = List ℕ × ℕ}
        (Asks (Allowed n) 1 (Asks (length block ≡ 16 * n) 2 (Asks (each_draws code n ≤ length ws) 5 Done)))
        o.0.number (compressed C n chain block ws 0) (chain, 0) (o.1, o.0.drawn)
    compress_outcome =
        call_settles 0 1 (each_draws code n) (compressed C n chain block) (says_count n)
        (says_eq (length block) (16 * n))
        compress_law chain ws

    module _ (accepted : o.0.number ≡ 0) where
      asks_for : Allowed n × (length block ≡ 16 * n) × (each_draws code n ≤ length ws)
      asks_for =
          call_asked 0 1 (each_draws code n) (compressed C n chain block) (says_count n)
          (says_eq (length block) (16 * n)) compress_law chain ws accepted

      pub compress_drawn : o.0.drawn ≡ each_draws code n
      compress_drawn =
          call_draws 0 1 (each_draws code n) (compressed C n chain block) (says_count n)
          (says_eq (length block) (16 * n)) compress_law chain ws accepted

      -- what stands after the chain's words, and after the words drawn, has no say
      pub compress_past : (other vs : List ℕ) → take (m * n) chain ≡ take (m * n) other
          → take (each_draws code n) ws ≡ take (each_draws code n) vs → o ≡ compress_call C n other block vs
      unfolding used
      compress_past other vs same-front same =
          call_past 0 1 (each_draws code n) (compressed C n chain block) (says_count n)
          (says_eq (length block) (16 * n)) compress_law chain ws accepted (compressed C n other block) other vs
          (rw same-front) same

      pub compress_opens_to : Words 32 chain → Words 32 block
          → open_words n m o.1 ≡ (standard_of 32 code).compress (open_words n m chain) (open_words n 16 block)
      unfolding call chain_of used
      compress_opens_to words blocks =
          let c = asks_for.0 in
          let made = (C.compress n front block ws 0).0 in
          let size = front_size c.1 in
          let keeps = hash_opens code n c.0 in
          let g = (keeps.compresses
          (masks 32 n m front size (words_opened 32 n m front (words_take 32 (m * n) chain words)))
          (masks 32 n 16 block asks_for.1 (words_opened 32 n 16 block blocks))).makes ws 0 in
          rw accepted
          (open_front n m made (replicate (chain_room (standard_of 32 code) - m * n) 0) (goods_size keeps.size g)
          ∙ goods_open (λ x X g. (g.0, g.1)) g
          ∙ ap (λ t. (standard_of 32 code).compress t (open_words n 16 block)) (open_used (standard_of 32 code) n chain
          size))

-- ---- two shares
pub xor_off : (a b : ℕ) → bit_xor (bit_xor a b) b ≡ a
xor_off a b = xor_comm (bit_xor a b) b ∙ ap (bit_xor b) (xor_comm a b) ∙ xor_back b a

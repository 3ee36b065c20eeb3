-- The claims, on one page: each demand as a theorem about the calls (crates/rules/specs/Calls.antt) at 32 bits. What is
-- said of a hash is said of both, by its code: `hash_of 32 0` is `sha1 32`, `hash_of 32 1` is `sha256 32`. How an
-- outcome is described, `Given`, `Settles`, `Follows`, `Makes`, stands in crates/rules/specs/Outcome.antt. The
-- hypothesis `Words k x`, every entry of x is below 2^k, is true of all that the code can be lent: words (k = 32),
-- bytes (k = 8).
use Rattle.std.specs.Prelude.{ℕ, zero, suc, ◌+◌, ◌-◌, ◌*◌, ◌/◌, ◌%◌, ◌^◌, ◌≤◌, ◌<◌, ◌≡◌, refl, List, [], ◌∷◌, ◌++◌}
use Rattle.std.specs.Prelude.{length, get_or, take, replicate}
use Rattle.std.proofs.Common.{sym, ap, ◌∙◌, lit<, lit≤}
use Rattle.std.specs.Int.Bits.{bit_xor, bit_and}
use Rattle.std.proofs.lemmas.Nat.{xor_lt}
use Rattle.words.specs.Word.{plus, minus, shift}
use Rattle.words.proofs.Words.{plus_minus}
use Rattle.rules.specs.declared.Answer.{Answer}
use Rattle.rules.specs.declared.State.{State}
use Rattle.rules.specs.declared.Streamed.{Streamed}
use Rattle.rules.specs.Supply.{Shares, Words, split, opened, total}
use Rattle.rules.specs.Numbers.{test, first}
use Rattle.rules.specs.Goubin.{b2a_record, a2b_record}
use Rattle.rules.specs.Independent.{Independent}
use Rattle.rules.specs.Shares.{refresh, expand, and, add}
use Rattle.rules.specs.Convert.{to_bool, to_arith}
use Rattle.rules.specs.Short.{to_arith_short}
use Rattle.rules.specs.Hash.{chain_words, digest_bytes, bytes_of, number_of, words_of, all_bytes, zeros, padding, ended}
use Rattle.rules.specs.Hash.{ending, schedule, rounds, sums, blocks, digest, key_block, hmac}
use Rattle.rules.specs.Standard.{SHA1, ROTL, complement, Ch, Parity, Maj, f, following, round, compress}
use Rattle.rules.specs.Standard256.{SHA256, ROTR, SHR, Σ, σ, K}
use Rattle.rules.specs.Standard256.{following as following256, round as round256, compress as compress256}
use Rattle.rules.specs.Sha1.{open_words}
use Rattle.rules.specs.Hmac.{chain_room, used, chain_of, split_key, hmac_tag}
use Rattle.rules.specs.Counts.{refresh_draws, add_draws, to_bool_draws, to_arith_draws, short_draws}
use Rattle.rules.specs.Counts.{key_draws, state_draws, standard_of, hash_of, sha1, sha256}
use Rattle.rules.specs.Calls.{call, b2a_two, a2b_two, b2a_record_call, a2b_record_call, split_call, open_xor_call}
use Rattle.rules.specs.Calls.{open_sum_call}
use Rattle.rules.specs.Calls.{refresh_call, expand_call, and_call, add_call, a2b_call, b2a_call, b2a_short_call}
use Rattle.rules.specs.Calls.{split_key_call}
use Rattle.rules.specs.Calls.{compress_call, hmac_call, same_tag}
use Rattle.rules.specs.Stream.{ReadAlike, state_of_zeros, start, feed, finish, start_call, feed_call, finish_call}
use Rattle.rules.specs.Stream.{closed}
use Rattle.rules.specs.Stream.{Feeds, message, after, drawn, Accepted, Reached}
use Rattle.rules.specs.Outcome.{Power, Allowed, Fit, Whole, None, Asks, Done, Given, Settles, Follows, Makes}
use Rattle.rules.proofs.Outcomes.{untested, says_power, says_count, says_eq, says_le, says_two, exactly, follows, makes}
use Rattle.rules.proofs.Outcomes.{makes_as, only, done_only, open_settles, compared, record_settles}
use Rattle.rules.proofs.Outcomes.{record_independent}
use Rattle.rules.proofs.AtCalls.{some, add_count, to_bool_count, refresh_law, expand_law, and_law, add_law}
use Rattle.rules.proofs.AtCalls.{to_bool_law, to_arith_law, to_arith_sums}
use Rattle.rules.proofs.AtCalls.{short_law, to_arith_keeps_lem, there_back, back_there, short_count, long_count}
use Rattle.rules.proofs.AtCalls.{split_key_law, split_opens}
use Rattle.rules.proofs.AtCalls.{hmac_tag_law, tags, xor_off}
use Rattle.rules.proofs.AtCalls.{compress_outcome, compress_drawn, compress_past, compress_opens_to}
use Rattle.rules.proofs.AtStreams.{start_outcome, start_count, start_past, feed_outcome, feed_count, feed_past}
use Rattle.rules.proofs.AtStreams.{finish_outcome, finish_count, finish_past, hash_cuts, hash_words, streamed_tag}
use Rattle.rules.proofs.AtStreams.{one_call_tag, hash_tag}
use Rattle.rules.proofs.Sizes.{compress_count}
use Rattle.rules.proofs.Streaming.{state_count}
use Rattle.rules.proofs.Reaching.{finished_count, fed_not_six, finished_not_six, hash_counts, hash_fit}
use Rattle.rules.proofs.Openings.{opened_lt}
use Rattle.rules.proofs.Addition.{add_rule, split_rule}
use Rattle.rules.proofs.Conversion.{add_adds as add_all, refresh_refreshes, draws_one, draws_power, draws_other}
use Rattle.rules.proofs.Conversion.{to_bool_rule, to_arith_rule}
use Rattle.rules.proofs.Short.{short_none, short_more, short_closed, to_arith_short_rule, to_arith_short_opens}
use Rattle.rules.proofs.Ends.{b2a_length, a2b_length, b2a_ends, a2b_ends}
use Rattle.rules.proofs.Demand3.{b2a_independent, a2b_independent}
use Rattle.rules.proofs.Calls.{one_outcome}

-- ==== Demand 1: what a call leaves
-- A number is given exactly when section 3 says: whatever the conditions are, no two numbers fit them.
pub given_exactly : {Count Input Output Text Supply : Type 0} {i j : ℕ}
    → Given Count Input Output Text Supply i → Given Count Input Output Text Supply j → i ≡ j
given_exactly = exactly

-- W(n), the words of arithmetic to Boolean: W(1) = 0; W(n) = 2W(n/2) + n + 16n(n−1) where n is a power of two, which is
-- 32n(n−1) − 15pn for n = 2^p; W(n) = W(⌊n/2⌋) + W(⌈n/2⌉) + 2(n−1) + 16n(n−1) for any other n.
abbrev pub W : ℕ → ℕ
W n = to_bool_draws (add_draws 32) n

pub W-one : W 1 ≡ 0
W-one = draws_one (add_draws 32) 1 (lit≤ tt)

pub W-power : (n p : ℕ) → 1 < n → n ≡ 2 ^ p → W n ≡ 2 * W (n / 2) + n + 16 * (n * (n - 1))
W-power n p h e = draws_power (add_draws 32) n p h e ∙ ap (λ d. 2 * W (n / 2) + n + d) (add_count n)

pub W-closed : (p : ℕ) → (let n = 2 ^ p in W n ≡ 32 * (n * (n - 1)) - 15 * (p * n))
W-closed = to_bool_count

pub W-other : (n : ℕ) → 1 < n → ((p : ℕ) → n ≡ 2 ^ p → ⊥)
    → W n ≡ W (n / 2) + W (n - n / 2) + 2 * (n - 1) + 16 * (n * (n - 1))
W-other n h none =
    draws_other (add_draws 32) n h none ∙ ap (λ d. W (n / 2) + W (n - n / 2) + 2 * (n - 1) + d) (add_count n)

-- E(n), the words of one compression: 5,220·n(n−1) of SHA-1, 9,664·n(n−1) of SHA-256.
abbrev pub E : ℕ → ℕ → ℕ
E zero n = 5220 * (n * (n - 1))
E (suc code) n = 9664 * (n * (n - 1))

pub E-draws : (code n : ℕ) → (hash_of 32 code).draws n ≡ E code n
E-draws zero = compress_count 0
E-draws (suc code) = compress_count (suc code)

-- D(n, l), the words of splitting a key of l bytes: 16(n−1) up to 64 bytes; over that ceil(l/4)(n−1), and then those of
-- floor((l + 8)/64) + 1 compressions.
abbrev pub D : ℕ → ℕ → ℕ → ℕ
D code n l = key_draws (hash_of 32 code) n l

pub D-short : (code n l : ℕ) → l ≤ 64 → D code n l ≡ 16 * (n - 1)
D-short = short_count

pub D-long : (code n l : ℕ) → 64 < l → D code n l ≡ (l + 3) / 4 * (n - 1) + ((l + 8) / 64 + 1) * E code n
D-long = long_count

-- V(n), the words of the short conversion: V(1) = 0 and V(n) = 3n − 2 + 2V(n−1), which is 7·2^(n−1) − 3n − 4.
pub V-one : short_draws 1 ≡ 0
V-one = short_none 1 (lit≤ tt)

pub V-more : (n : ℕ) → 1 < n → short_draws n ≡ 3 * n - 2 + 2 * short_draws (n - 1)
V-more = short_more

pub V-closed : (n : ℕ) → 0 < n → short_draws n ≡ 7 * 2 ^ (n - 1) - 3 * n - 4
V-closed = short_closed

-- The calls on n shares, each with what it asks of its input, how long its output is, what it asks of its text, how
-- many words it draws and its rule. Refused, it reports 0 words drawn and the output stays as it came
-- (`refused_leaves`). Accepted, output and count are the rule's, from place 0 (`accepted_is`), the count in closed
-- form (`count`), and words after those drawn have no influence (`past_draws`).
pub record CallsFollow (n : ℕ) : Type 0 where
  pub split_follows : (value : ℕ) → Follows (Allowed n) None n None (n - 1) (split n value) (split_call n value)
  pub refresh_follows : (x : List ℕ)
      → Follows (Allowed n) (length x ≡ n) n None (n * (n - 1) / 2) (refresh x) (refresh_call n x)
  pub expand_follows : (x : List ℕ) → Follows (Allowed n) (length x ≡ n) (2 * n) None n (expand x) (expand_call n x)
  pub and_follows : (x y : List ℕ)
      → Follows (Allowed n) ((length x ≡ n) × (length y ≡ n)) n None (n * (n - 1) / 2) (and x y) (and_call n x y)
  pub add_follows : (x y : List ℕ)
      → Follows (Allowed n) ((length x ≡ n) × (length y ≡ n)) n None (16 * (n * (n - 1)))
      (add 32 x y) (add_call 32 n x y)
  pub a2b_follows : (a : List ℕ) → Words 32 a
      → Follows (Allowed n) (length a ≡ n) n None (W n) (to_bool (add 32) a) (a2b_call 32 n a)
  pub b2a_follows : (x : List ℕ) → Words 32 x
      → Follows (Allowed n) (length x ≡ n) n None (n - 1 + W n + 16 * (n * (n - 1)) + n * (n - 1) / 2)
      (to_arith 32 (add 32) refresh x) (b2a_call 32 n x)
  pub b2a_short_follows : (x : List ℕ)
      → Follows (Power n) (length x ≡ n) n None (7 * 2 ^ (n - 1) - 3 * n - 4) (to_arith_short 32 x)
      (b2a_short_call 32 n x)

pub calls_follow : (n : ℕ) → CallsFollow n
unfolding first test call
calls_follow n =
    record {
      split_follows = λ value. follows (says_count n) untested untested (λ c i t. split_rule n value (some n c));
      refresh_follows = λ x. follows (says_count n) (says_eq (length x) n) untested (λ c i t. refresh_law n x i);
      expand_follows = λ x. follows (says_count n) (says_eq (length x) n) untested (λ c i t. expand_law n x i);
      and_follows = λ x y. follows (says_count n) (says_two n x y) untested (λ c i t. and_law n x y i);
      add_follows = λ x y. follows (says_count n) (says_two n x y) untested (λ c i t. add_law n x y i);
      a2b_follows = λ a u. follows (says_count n) (says_eq (length a) n) untested (λ c i t. to_bool_law n c a i u);
      b2a_follows = λ x u. follows (says_count n) (says_eq (length x) n) untested (λ c i t. to_arith_law n c x i u);
      b2a_short_follows = λ x. follows (says_power n) (says_eq (length x) n) untested (λ c i t. short_law n c x i);
    }

-- The same of a hash: a key split, and a tag of 20 or 32 bytes.
pub record HashFollows (code n : ℕ) : Type 0 where
  pub split_key_follows : (key : List ℕ)
      → Follows (Allowed n) None (16 * n) (length key ≤ 1024) (D code n (length key))
      (split_key (hash_of 32 code) n key) (split_key_call (hash_of 32 code) n key)
  pub hmac_follows : (key text : List ℕ)
      → Follows (Allowed n) (length key ≡ 16 * n) (digest_bytes (standard_of 32 code)) (length text ≤ 65536)
      (((length text + 8) / 64 + 4) * E code n) (hmac_tag (hash_of 32 code) n key text)
      (hmac_call (hash_of 32 code) n key text)

pub hash_follows : (code n : ℕ) → HashFollows code n
unfolding first test call
hash_follows code n =
    record {
      split_key_follows = λ key.
          follows (says_count n) untested (says_le (length key) 1024) (λ c i t. split_key_law code n c key);
      hmac_follows = λ key text.
          follows (says_count n) (says_eq (length key) (16 * n)) (says_le (length text) 65536)
          (λ c i t. hmac_tag_law code n c key text i);
    }

pub tags_have : (digest_bytes (SHA1 32) ≡ 20) × (digest_bytes (SHA256 32) ≡ 32)
tags_have = (refl, refl)

-- An opening gives 0, 1 or 2: the XOR of the shares, or their sum modulo 2^32; refused, the word 0.
pub open_xor_settles : (n : ℕ) (x : List ℕ)
    → (let o = open_xor_call n x in Settles (Given (Allowed n) (length x ≡ n) None None None) o.number (opened x) 0
    o.word)
open_xor_settles n x = open_settles n x (opened x)

pub open_sum_settles : (n : ℕ) (a : List ℕ)
    → (let o = open_sum_call 32 n a in
    Settles (Given (Allowed n) (length a ≡ n) None None None) o.number (total a % 2 ^ 32) 0 o.word)
open_sum_settles n a = open_settles n a (total a % 2 ^ 32)

-- Comparing two tags, or any two texts, answers 1 where they are equal in every byte and in length, and 0 where not.
pub same_tag_tells : (a b : List ℕ) → Asks (a ≡ b) 0 (λ answer. answer ≡ 1) (same_tag a b)
same_tag_tells = compared

-- A recording form gives 0 or 3: a record of exactly 7 or 165 entries has the steps, any other stays as it came.
pub b2a_record_settles : (x' r G : ℕ) (came : List ℕ)
    → (let o = b2a_record_call 32 x' r G came in
    Settles (Given None None (length came ≡ 7) None None) o.0 (b2a_record 32 x' r G) came o.1)
b2a_record_settles x' r G came = record_settles 7 (b2a_record 32 x' r G) came

pub a2b_record_settles : (A r G : ℕ) (came : List ℕ)
    → (let o = a2b_record_call 32 A r G came in
    Settles (Given None None (length came ≡ 165) None None) o.0 (a2b_record 32 A r G) came o.1)
a2b_record_settles A r G came = record_settles 165 (a2b_record 32 A r G) came

-- The records have 7 and 5k + 5 entries, at every width.
pub record_lengths : (k x r G : ℕ) → 0 < k → (length (b2a_record k x r G) ≡ 7)
    × (length (a2b_record k x r G) ≡ 5 * k + 5)
record_lengths k x r G h = (b2a_length k x r G, a2b_length k x r G h)

-- A compression: refused, the chain record exactly as given; accepted, the new chain with 0 after its words, 5n of
-- SHA-1 and 8n of SHA-256, and E(n) words drawn. What the record has after these words, and the supply after those
-- drawn, is not looked at. (That a record has 80 or 128 places is its type's.)
module _ (code n : ℕ) (chain : List ℕ) (whole : length chain ≡ chain_room (standard_of 32 code)) (block ws : List ℕ)
  where
    abbrev words : ℕ
    words = chain_words (standard_of 32 code)

    abbrev o : Answer × List ℕ
    o = compress_call (hash_of 32 code) n chain block ws

    pub compress_settles : (let made = (hash_of 32 code).compress n (take (words * n) chain) block ws 0 in
        Settles {A = List ℕ × ℕ}
        (Asks (Allowed n) 1 (Asks (length block ≡ 16 * n) 2 (Asks (E code n ≤ length ws) 5 Done)))
        o.0.number (made.0 ++ replicate (words * 16 - words * n) 0, made.1) (chain, 0) (o.1, o.0.drawn))
    unfolding used chain_of
    compress_settles = compress_outcome code n chain block whole ws

    pub compress_draws_lem : o.0.number ≡ 0 → o.0.drawn ≡ E code n
    compress_draws_lem = compress_drawn code n chain block whole ws

    pub compress_past_draws : o.0.number ≡ 0 → (other vs : List ℕ) → take (words * n) chain ≡ take (words * n) other
        → take (E code n) ws ≡ take (E code n) vs → o ≡ compress_call (hash_of 32 code) n other block vs
    compress_past_draws = compress_past code n chain block whole ws

    -- Demand 2: it opens to FIPS 180-4's compression of what the chain and the block open to.
    pub compress_is_fips180 : o.0.number ≡ 0 → Words 32 chain → Words 32 block
        → open_words n words o.1
        ≡ (standard_of 32 code).compress (open_words n words chain) (open_words n 16 block)
    compress_is_fips180 = compress_opens_to code n chain block whole ws

pub records_have : (chain_room (SHA1 32) ≡ 80) × (chain_room (SHA256 32) ≡ 128)
records_have = (refl, refl)

-- ==== Demand 2: right whatever the random words are
-- Splitting, refresh and expand keep the secret; AND opens to the AND, addition to the sum modulo 2^32.
pub split_keeps : (n value : ℕ) → Makes 32 (split_call n value) (Shares n value)
split_keeps n value = makes_as ((calls_follow n).split_follows value) (λ c i t. split_rule n value (some n c))

pub refresh_keeps : (n : ℕ) (x : List ℕ) → Makes 32 (refresh_call n x) (Shares n (opened x))
refresh_keeps n x = makes_as ((calls_follow n).refresh_follows x) (λ c i t. refresh_law n x i)

pub expand_keeps : (n : ℕ) (x : List ℕ) → Makes 32 (expand_call n x) (Shares (2 * n) (opened x))
expand_keeps n x = makes_as ((calls_follow n).expand_follows x) (λ c i t. expand_law n x i)

pub and_ands : (n : ℕ) (x y : List ℕ) → Makes 32 (and_call n x y) (Shares n (bit_and (opened x) (opened y)))
and_ands n x y = makes_as ((calls_follow n).and_follows x y) (λ c i t. and_law n x y i)

pub add_adds : (n : ℕ) (x y : List ℕ) → Words 32 x → Words 32 y
    → Makes 32 (add_call 32 n x y) (Shares n ((opened x + opened y) % 2 ^ 32))
unfolding plus
add_adds n x y u v =
    makes_as ((calls_follow n).add_follows x y)
    (λ c i t. add_rule 32 n x y (lit< tt) i.0 i.1 (opened_lt 32 x u) (opened_lt 32 y v))

-- Both conversions keep the secret, and so does going there and back, whatever words either draws.
pub a2b_keeps : (n : ℕ) (a : List ℕ) → Words 32 a → Makes 32 (a2b_call 32 n a) (Shares n (total a % 2 ^ 32))
a2b_keeps n a u = makes_as ((calls_follow n).a2b_follows a u) (λ c i t. to_bool_law n c a i u)

pub b2a_keeps : (n : ℕ) (x : List ℕ) → Words 32 x
    → Makes 32 (b2a_call 32 n x) (λ a. (length a ≡ n) × (total a % 2 ^ 32 ≡ opened x))
b2a_keeps n x u =
    makes ((calls_follow n).b2a_follows x u)
    (λ c i t ws w. ((to_arith_law n c x i u).makes ws 0, to_arith_sums n c x i u ws w))

pub b2a_short_keeps : (n : ℕ) (x : List ℕ) → Words 32 x
    → Makes 32 (b2a_short_call 32 n x) (λ a. (length a ≡ n) × (total a % 2 ^ 32 ≡ opened x))
b2a_short_keeps n x u =
    makes ((calls_follow n).b2a_short_follows x)
    (λ c i t ws w. ((short_law n c x i).makes ws 0, to_arith_short_opens 32 x ws 0 w u))

pub there_and_back : (n : ℕ) (x : List ℕ) → Words 32 x
    → Makes 32 (b2a_call 32 n x) (λ a. Makes 32 (a2b_call 32 n a) (λ y. opened y ≡ opened x))
there_and_back n x u = makes ((calls_follow n).b2a_follows x u) (λ c i t. there_back n c x i u)

pub back_and_there : (n : ℕ) (a : List ℕ) → Words 32 a
    → Makes 32 (a2b_call 32 n a) (λ x. Makes 32 (b2a_call 32 n x) (λ b. total b % 2 ^ 32 ≡ total a % 2 ^ 32))
back_and_there n a u = makes ((calls_follow n).a2b_follows a u) (λ c i t. back_there n c a i u)

-- Both conversions at every width and of any number of shares from one on: they keep the secret, and draw what the
-- counts say.
module _ (k : ℕ) (wide : 0 < k) (x : List ℕ) (some : 0 < length x) (words : Words k x) (ws : List ℕ) (at : ℕ) where
  pub to_bool_keeps : opened (to_bool (add k) x ws at).0 ≡ total x % 2 ^ k
  to_bool_keeps = ((to_bool_rule k (add_draws k) (add k) (add_all k wide) x some words).makes ws at).1

  pub to_bool_draws_lem : (to_bool (add k) x ws at).1 ≡ at + to_bool_draws (add_draws k) (length x)
  to_bool_draws_lem = (to_bool_rule k (add_draws k) (add k) (add_all k wide) x some words).place ws at

  pub to_arith_keeps : Words k ws → total (to_arith k (add k) refresh x ws at).0 % 2 ^ k ≡ opened x
  to_arith_keeps = to_arith_keeps_lem k wide x some words ws at

  pub to_arith_draws_lem : (to_arith k (add k) refresh x ws at).1
      ≡ at + to_arith_draws (add_draws k) refresh_draws (length x)
  to_arith_draws_lem =
      (to_arith_rule k (add_draws k) (add k) (add_all k wide) refresh_draws refresh refresh_refreshes x some
      (opened_lt k x words)).place ws at

-- The short conversion at every width and of any number of shares: it keeps the secret, and draws V(n) words. So it
-- opens to what the other does; of calls, b2a_keeps and b2a_short_keeps say so.
module _ (k : ℕ) (x ws : List ℕ) (at : ℕ) where
  pub short_keeps : Words k ws → Words k x → total (to_arith_short k x ws at).0 % 2 ^ k ≡ opened x
  short_keeps = to_arith_short_opens k x ws at

  pub short_draws_lem : (to_arith_short k x ws at).1 ≡ at + short_draws (length x)
  short_draws_lem = (to_arith_short_rule k x).place ws at

  pub short_as_b2a : 0 < k → 0 < length x → Words k ws → Words k x
      → (vs : List ℕ) (from : ℕ) → Words k vs
      → total (to_arith_short k x ws at).0 % 2 ^ k ≡ total (to_arith k (add k) refresh x vs from).0 % 2 ^ k
  short_as_b2a wide some w u vs from v = short_keeps w u ∙ sym (to_arith_keeps_lem k wide x some u vs from v)

-- Splitting a key and tagging with its shares gives the bytes of RFC 2104 over FIPS 180-4, for all keys, of up to 1,024
-- bytes, texts and words: in one call, and streamed, from any start, feeds and finish that are accepted.
pub tag_is_rfc2104 : (code n : ℕ) (key text : List ℕ) → Words 8 key → Words 8 text
    → Makes 32 (split_key_call (hash_of 32 code) n key)
    (λ shares. Makes 32 (hmac_call (hash_of 32 code) n shares text) (λ tag. tag ≡ hmac (standard_of 32 code) key text))
tag_is_rfc2104 code n key text u v =
    makes ((hash_follows code n).split_key_follows key) (λ c i t ws w. tags code n c key text u v ws)

pub streamed_tag_of_split_key : (code n : ℕ) (key : List ℕ) → Words 8 key
    → Makes 32 (split_key_call (hash_of 32 code) n key)
    (λ shares. (ws : List ℕ) (fs : Feeds) (came vs : List ℕ) → (let M = hash_of 32 code in
    let s = start_call M n shares ws in
    let o = finish_call M (after M s.state fs) came vs in
    s.number ≡ 0 → Words 8 (message fs) → Accepted M s.state fs → o.0.number ≡ 0
    → o.1 ≡ hmac (standard_of 32 code) key (message fs)))
streamed_tag_of_split_key code n key u =
    makes ((hash_follows code n).split_key_follows key)
    (λ c i t vs w ws fs came us ok bytes taken done.
    hash_tag code n _ ws ok key u (split_opens code n c key u vs) fs bytes taken came us done)

-- So it is of SHA-1, and of SHA-256.
pub sha1_tag_is_rfc2104 : (n : ℕ) (key text : List ℕ) → Words 8 key → Words 8 text
    → Makes 32 (split_key_call (sha1 32) n key)
    (λ shares. Makes 32 (hmac_call (sha1 32) n shares text) (λ tag. tag ≡ hmac (SHA1 32) key text))
sha1_tag_is_rfc2104 = tag_is_rfc2104 0

pub sha256_tag_is_rfc2104 : (n : ℕ) (key text : List ℕ) → Words 8 key → Words 8 text
    → Makes 32 (split_key_call (sha256 32) n key)
    (λ shares. Makes 32 (hmac_call (sha256 32) n shares text) (λ tag. tag ≡ hmac (SHA256 32) key text))
sha256_tag_is_rfc2104 = tag_is_rfc2104 1

-- The working two-share forms keep the secret, and are what the recording forms end in, whatever the fresh word is.
pub b2a_two_keeps : (x' r : ℕ) → x' < 2 ^ 32 → r < 2 ^ 32 → (b2a_two 32 x' r + r) % 2 ^ 32 ≡ bit_xor x' r
unfolding plus
b2a_two_keeps x' r h l = plus_minus 32 (bit_xor x' r) r (xor_lt 32 x' r h l) l

pub a2b_two_keeps : (A r : ℕ) → bit_xor (a2b_two 32 A r) r ≡ (A + r) % 2 ^ 32
unfolding plus
a2b_two_keeps A r = xor_off (plus 32 A r) r

pub b2a_record_ends : (x' r G : ℕ) (came : List ℕ) → x' < 2 ^ 32 → r < 2 ^ 32 → G < 2 ^ 32
    → (let o = b2a_record_call 32 x' r G came in o.0 ≡ 0 → get_or o.1 6 0 ≡ b2a_two 32 x' r)
b2a_record_ends x' r G came a b c h = rw h (b2a_ends 32 x' r G a b c)

pub a2b_record_ends : (A r G : ℕ) (came : List ℕ) → A < 2 ^ 32 → r < 2 ^ 32
    → (let o = a2b_record_call 32 A r G came in o.0 ≡ 0 → get_or o.1 164 0 ≡ a2b_two 32 A r)
a2b_record_ends A r G came a b h = rw h (a2b_ends 32 A r G (lit< tt) a b)

-- ==== Demand 3: one probe on one step says nothing
-- Each entry that a recording call leaves, at every width k, shows each value equally often for any two secrets, over
-- all r and G. (That this can fail, as of two steps together, is `two_steps_show` of crates/rules/proofs/Demand3.antt.)
pub b2a_step_says_nothing : (k i : ℕ) (came : List ℕ)
    → Independent k (λ x r G. get_or (b2a_record_call k (bit_xor x r) r G came).1 i 0)
b2a_step_says_nothing k i came =
    record_independent k i 7 (λ x r G. b2a_record k (bit_xor x r) r G) came (b2a_independent k i)

pub a2b_step_says_nothing : (k i : ℕ) (came : List ℕ)
    → Independent k (λ x r G. get_or (a2b_record_call k (minus k x r) r G came).1 i 0)
a2b_step_says_nothing k i came =
    record_independent k i (5 * k + 5) (λ x r G. a2b_record k (minus k x r) r G) came (a2b_independent k i)

-- ==== Streaming: a tag while the message comes in pieces
-- Start: refused, a state of zeros; accepted, the rule's, with the words of two compressions drawn.
module _ (code n : ℕ) (key ws : List ℕ) where
  abbrev started : Streamed
  started = start_call (hash_of 32 code) n key ws

  pub start_settles : Settles {A = State × ℕ}
      (Asks (Allowed n) 1 (Asks (length key ≡ 16 * n) 2 (Asks (2 * E code n ≤ length ws) 5 Done)))
      started.number (start (hash_of 32 code) n key ws 0) (state_of_zeros, 0) (started.state, started.drawn)
  start_settles = start_outcome code n key ws

  pub start_draws_lem : started.number ≡ 0 → started.drawn ≡ 2 * E code n
  start_draws_lem = start_count code n key ws

  pub start_past_draws : started.number ≡ 0 → (vs : List ℕ)
      → take (2 * E code n) ws ≡ take (2 * E code n) vs → started
      ≡ start_call (hash_of 32 code) n key vs
  start_past_draws = start_past code n key ws

-- Feed and finish, on any state at all. (That its chains have 128 words and its tail 64 bytes is its type's.) Number 6
-- comes before all others. Refused, the state is as given. What is not read of the state, and the supply after the
-- words drawn, has no influence.
module _ (code : ℕ) (s : State) (whole : Whole s) (ws : List ℕ) where
  module _ (piece : List ℕ) where
    abbrev fed : Streamed
    fed = feed_call (hash_of 32 code) s piece ws

    -- one compression for each block that the piece fills
    abbrev feeds_draw : ℕ
    feeds_draw = (s.bytes % 64 + length piece) / 64 * E code s.n

    pub feed_settles : Settles {A = State × ℕ}
        (Asks (Fit (hash_of 32 code) s) 6 (Asks (s.bytes + length piece ≤ 65536) 4 (Asks (feeds_draw ≤ length ws) 5
        Done)))
        fed.number (feed (hash_of 32 code) s piece ws 0) (s, 0) (fed.state, fed.drawn)
    feed_settles = feed_outcome code s whole ws piece

    pub feed_draws_lem : fed.number ≡ 0 → fed.drawn ≡ feeds_draw
    feed_draws_lem = feed_count code s whole ws piece

    pub feed_past_draws : fed.number ≡ 0 → (t : State) (vs : List ℕ) → ReadAlike (standard_of 32 code) s t
        → take feeds_draw ws ≡ take feeds_draw vs → fed ≡ feed_call (hash_of 32 code) t piece vs
    feed_past_draws = feed_past code s whole ws piece

  module _ (came : List ℕ) where
    abbrev finished : Streamed × List ℕ
    finished = finish_call (hash_of 32 code) s came ws

    abbrev finish_draws : ℕ
    finish_draws = ((s.bytes % 64 + 8) / 64 + 2) * E code s.n

    -- accepted, only the finished mark is set
    pub finish_settles : (let made = finish (hash_of 32 code) s ws 0 in
        Settles {A = State × List ℕ × ℕ}
        (Asks (Fit (hash_of 32 code) s) 6 (Asks (length came ≡ digest_bytes (standard_of 32 code)) 3
        (Asks (finish_draws ≤ length ws) 5 Done)))
        finished.0.number (closed s, made.0, made.1) (s, came, 0)
        (finished.0.state, finished.1, finished.0.drawn))
    finish_settles = finish_outcome code s whole ws came

    pub finish_draws_lem : finished.0.number ≡ 0 → finished.0.drawn ≡ finish_draws
    finish_draws_lem = finish_count code s whole ws came

    pub finish_past_draws : finished.0.number ≡ 0 → (t : State) (vs : List ℕ) → ReadAlike (standard_of 32 code) s t
        → take finish_draws ws ≡ take finish_draws vs → (let o = finish_call (hash_of 32 code) t came vs in
        (o.1 ≡ finished.1) × (o.0.number ≡ 0) × (o.0.drawn ≡ finished.0.drawn))
    finish_past_draws = finish_past code s whole ws came

-- A number is given exactly when it is said: whatever is asked, no two numbers fit.
pub asks_exactly : {A B C : Type 0} {a b c i j : ℕ}
    → Asks A a (Asks B b (Asks C c Done)) i → Asks A a (Asks B b (Asks C c Done)) j → i ≡ j
asks_exactly = only (only (only done_only))

-- Any cutting, at every width: two lists of pieces with the same bytes joined, each piece with a supply of its own,
-- none refused, and the words drawn the same when joined in order, end in the same state, hence in the same tag.
module _ (k : ℕ) (wide : 0 < k) (code n : ℕ) (key ws : List ℕ)
    (accepted : (start_call (hash_of k code) n key ws).number ≡ 0) where
  abbrev s₀ : State
  s₀ = (start_call (hash_of k code) n key ws).state

  pub any_cutting : (fs gs : Feeds) → Accepted (hash_of k code) s₀ fs → Accepted (hash_of k code) s₀ gs
      → message fs ≡ message gs → drawn (hash_of k code) s₀ fs ≡ drawn (hash_of k code) s₀ gs
      → (after (hash_of k code) s₀ fs ≡ after (hash_of k code) s₀ gs)
      × ((came vs : List ℕ) → finish_call (hash_of k code) (after (hash_of k code) s₀ fs) came vs
      ≡ finish_call (hash_of k code) (after (hash_of k code) s₀ gs) came vs)
  any_cutting fs gs f g bytes words =
      let same = hash_cuts k wide code n key ws accepted fs gs f g bytes words in
      (same, λ came vs. ap (λ s. finish_call (hash_of k code) s came vs) same)

  -- The count: over any run of accepted calls, the words of floor((L + 8)/64) + 4 compressions.
  pub streamed_count : (fs : Feeds) → Accepted (hash_of k code) s₀ fs → (came vs : List ℕ)
      → (let o = (finish_call (hash_of k code) (after (hash_of k code) s₀ fs) came vs).0 in o.number ≡ 0
      → (start_call (hash_of k code) n key ws).drawn + length (drawn (hash_of k code) s₀ fs) + o.drawn
      ≡ ((length (message fs) + 8) / 64 + 4) * (hash_of k code).draws n)
  streamed_count = hash_words k wide code n key ws accepted

-- What a state carries, at every width: over any run of calls from an accepted start, accepted and refused, each on a
-- state that an earlier one handed back. Its count is the words that start and feeds drew, and those are the rules' for
-- the bytes taken; a refused call adds to neither. So it is fit until it is finished: 6 is never given for its count.
module _ (k : ℕ) (wide : 0 < k) (code : ℕ) {n bytes words : ℕ} {s : State} (run : Reached (hash_of k code) n bytes
    words s) where
  pub reached_counts : (s.n ≡ n) × (s.bytes ≡ bytes) × (s.drawn ≡ words)
      × (words ≡ (2 + bytes / 64) * (hash_of k code).draws n)
  reached_counts =
      let c = hash_counts k wide code run in
      (c.shares, c.taken_bytes, c.drawn_words, c.by_rule ∙ state_count (hash_of k code) n bytes refl)

  pub reached_fit : s.finished ≡ 0 → Fit (hash_of k code) s
  reached_fit = hash_fit k wide code run

  pub feed_never_six : s.finished ≡ 0 → (piece ws : List ℕ) → (feed_call (hash_of k code) s piece ws).number ≡ 6 → ⊥
  feed_never_six unmarked = fed_not_six (hash_of k code) s (reached_fit unmarked)

  pub finish_never_six : s.finished ≡ 0 → (came ws : List ℕ) → (finish_call (hash_of k code) s came ws).0.number ≡ 6 → ⊥
  finish_never_six unmarked = finished_not_six (hash_of k code) s (reached_fit unmarked)

-- The count that a fit state has, in closed form; and a finish leaves it, on any state, accepted or refused.
pub state_draws_lem : (code n bytes : ℕ) → state_draws (hash_of 32 code) n bytes ≡ (2 + bytes / 64) * E code n
state_draws_lem code n bytes = state_count (hash_of 32 code) n bytes refl
    ∙ ap (λ d. (2 + bytes / 64) * d) (E-draws code n)

pub finish_leaves_count : (code : ℕ) (s : State) (came ws : List ℕ)
    → (finish_call (hash_of 32 code) s came ws).0.state.drawn ≡ s.drawn
finish_leaves_count code = finished_count (hash_of 32 code)

-- The tag: RFC 2104's of the opened key and the joined pieces, whatever the words are; so it is the one-call tag.
module _ (code n : ℕ) (key ws : List ℕ) (words : Words 32 key)
    (accepted : (start_call (hash_of 32 code) n key ws).number ≡ 0)
    (fs : Feeds) (bytes : Words 8 (message fs))
    (taken : Accepted (hash_of 32 code) (start_call (hash_of 32 code) n key ws).state fs) where
  abbrev last : List ℕ → List ℕ → Streamed × List ℕ
  last came vs = finish_call (hash_of 32 code) (after (hash_of 32 code)
      (start_call (hash_of 32 code) n key ws).state fs)
      came vs

  pub streamed_tag_is_rfc2104 : (came vs : List ℕ) → (last came vs).0.number ≡ 0
      → (last came vs).1 ≡ hmac (standard_of 32 code) (all_bytes 4 (open_words n 16 key)) (message fs)
  streamed_tag_is_rfc2104 = streamed_tag code n key (message fs) words bytes ws accepted fs refl taken

  pub streamed_tag_is_one_call : (came vs other us : List ℕ) → (last came vs).0.number ≡ 0
      → (let o = hmac_call (hash_of 32 code) n key (message fs) other us in o.0.number ≡ 0 → (last came vs).1 ≡ o.1)
  streamed_tag_is_one_call came vs other us h g =
      streamed_tag_is_rfc2104 came vs h ∙ sym (one_call_tag code n key (message fs) words bytes other us g)

-- ==== No two differing outcomes satisfy one promise: in general, of a tag, of a finish, and of a comparison
pub no_two_outcomes : {O : Type 0} (promised one other : O) → promised ≡ one → promised ≡ other → one ≡ other
no_two_outcomes = one_outcome

pub no_two_tags : (code n : ℕ) (key text came ws tag tag' : List ℕ) (answer answer' : Answer)
    → hmac_call (hash_of 32 code) n key text came ws ≡ (answer, tag) → hmac_call (hash_of 32 code) n key text came ws
    ≡ (answer', tag')
    → (answer ≡ answer') × (tag ≡ tag')
no_two_tags code n key text came ws tag tag' answer answer' p q =
    let e = no_two_outcomes (hmac_call (hash_of 32 code) n key text came ws) (answer, tag) (answer', tag') p q in
    (ap (λ o. o.0) e, ap (λ o. o.1) e)

pub no_two_finishes : (code : ℕ) (s : State) (came ws tag tag' : List ℕ) (r r' : Streamed)
    → finish_call (hash_of 32 code) s came ws ≡ (r, tag) → finish_call (hash_of 32 code) s came ws ≡ (r', tag')
    → (r ≡ r') × (tag ≡ tag')
no_two_finishes code s came ws tag tag' r r' p q =
    let e = no_two_outcomes (finish_call (hash_of 32 code) s came ws) (r, tag) (r', tag') p q in
    (ap (λ o. o.0) e, ap (λ o. o.1) e)

pub no_two_answers : (a b : List ℕ) (answer answer' : ℕ) → same_tag a b ≡ answer → same_tag a b ≡ answer'
    → answer ≡ answer'
no_two_answers a b = no_two_outcomes (same_tag a b)

-- ==== The standards, computed: FIPS 180's example "abc", and case 1 of RFC 2202 and of RFC 4231
pub sha1_of_abc : digest (SHA1 32) (0x61 ∷ 0x62 ∷ 0x63 ∷ []) ≡ bytes_of 20 0xa9993e364706816aba3e25717850c26c9cd0d89d
unfolding digest bytes_of number_of words_of all_bytes zeros padding ended ending blocks schedule rounds sums
    ROTL complement Ch Parity Maj f following round compress plus shift
sha1_of_abc = refl

pub hmac_of_hi_there :
    hmac (SHA1 32) (replicate 20 0x0b) (0x48 ∷ 0x69 ∷ 0x20 ∷ 0x54 ∷ 0x68 ∷ 0x65 ∷ 0x72 ∷ 0x65 ∷ [])
    ≡ bytes_of 20 0xb617318655057264e28bc0b6fb378c8ef146be00
unfolding hmac key_block sha1_of_abc
hmac_of_hi_there = refl

pub sha256_of_abc : digest (SHA256 32) (0x61 ∷ 0x62 ∷ 0x63 ∷ [])
    ≡ bytes_of 32 0xba7816bf8f01cfea414140de5dae2223b00361a396177a9cb410ff61f20015ad
unfolding digest bytes_of number_of words_of all_bytes zeros padding ended ending blocks schedule rounds sums
    ROTL complement Ch Maj ROTR SHR Σ σ K following256 round256 compress256 plus shift
sha256_of_abc = refl

pub hmac_sha256_of_hi_there :
    hmac (SHA256 32) (replicate 20 0x0b) (0x48 ∷ 0x69 ∷ 0x20 ∷ 0x54 ∷ 0x68 ∷ 0x65 ∷ 0x72 ∷ 0x65 ∷ [])
    ≡ bytes_of 32 0xb0344c61d8db38535ca8afceaf0bf12b881dc200c9833da726e9376c2e32cff7
unfolding hmac key_block sha256_of_abc
hmac_sha256_of_hi_there = refl

-- ==== What no theorem says, and is read
-- That no word serves two draws is the shape of the rules: every draw moves the place on (`Draw` of rules/specs/Supply,
-- `bind` of rules/proofs/Rule). That what is lent for reading is not written is the language's. That the code is these
-- calls is each function's `ensures` in crates/flamivorse/src/lib.rt.

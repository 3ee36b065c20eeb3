-- Sections 5, 6 and 10: how many words each rule draws, in closed form, for n shares of k bits. That the rules draw so
-- many is proved.
use Rattle.std.specs.Prelude.{ℕ, zero, suc, ◌+◌, ◌-◌, ◌*◌, ◌/◌, ◌%◌, leb}
use Rattle.words.specs.Word.{Width}
use Rattle.rules.specs.Supply.{Count}
use Rattle.rules.specs.Shares.{add}
use Rattle.rules.specs.Numbers.{choose}
use Rattle.rules.specs.Convert.{Adder, power_of_two}
use Rattle.rules.specs.Hash.{Hash, block_bytes}
use Rattle.rules.specs.Standard.{SHA1}
use Rattle.rules.specs.Standard256.{SHA256}
use Rattle.rules.specs.Sha1.{compress}
use Rattle.rules.specs.Sha256.{compress as compress256}
use Rattle.rules.specs.Hmac.{Masked, words_for}

-- how many pairs n shares have: n(n−1)/2
unfoldable pub and_draws : Count → ℕ
and_draws zero = 0
and_draws (suc m) = m + and_draws m

-- refresh draws for the same pairs
abbrev pub refresh_draws : Count → ℕ
refresh_draws n = and_draws n

-- k ANDs
abbrev pub add_draws : Width → Count → ℕ
add_draws k n = k * and_draws n

-- m shares brought to n
abbrev pub widen_draws : Count → Count → ℕ
widen_draws n m = choose (power_of_two n) m (n - 1)

-- W(1) = 0, and W(n) is W of both halves, what each is widened by, and the words of one addition of n shares; d n is
-- what an addition draws
unfoldable pub to_bool_draws_in : (Count → ℕ) → ℕ → Count → ℕ
to_bool_draws_in d zero n = 0
to_bool_draws_in d (suc deep) n =
    let left = n / 2 in
    let right = n - n / 2 in
    let halves = to_bool_draws_in d deep left + widen_draws n left
    + (to_bool_draws_in d deep right + widen_draws n right) in
    choose (leb n 1) 0 (halves + d n)

unfoldable pub to_bool_draws : (Count → ℕ) → Count → ℕ
to_bool_draws d n = to_bool_draws_in d n n

-- n−1 words, W(n), one addition and one refresh
abbrev pub to_arith_draws : (Count → ℕ) → (Count → ℕ) → Count → ℕ
to_arith_draws d e n = n - 1 + to_bool_draws d n + d n + e n

-- V(1) = 0 and V(n) = 3n−2 + 2V(n−1)
unfoldable pub short_draws : Count → ℕ
short_draws zero = 0
short_draws (suc zero) = 0
short_draws (suc (suc m)) = 3 * suc (suc m) - 2 + 2 * short_draws (suc m)

-- ---- section 6: in ANDs, of the function of a quarter, of m rounds from round t on, of a compression
unfoldable pub quarter_ands : ℕ → ℕ
quarter_ands zero = 1
quarter_ands (suc zero) = 0
quarter_ands (suc (suc zero)) = 1
quarter_ands (suc (suc (suc q))) = 0

-- a is how many ANDs one addition makes
unfoldable pub rounds_ands : ℕ → ℕ → ℕ → ℕ
rounds_ands a zero t = 0
rounds_ands a (suc m) t = quarter_ands (t / 20) + 4 * a + rounds_ands a m (t + 1)

unfoldable pub compress_ands : ℕ → ℕ
compress_ands a = rounds_ands a 80 0 + 5 * a

abbrev pub compress_draws : Width → Count → ℕ
compress_draws k n = compress_ands k * and_draws n

-- request (vii): SHA-256 makes three additions for each of 48 schedule words, two ANDs and seven additions in each of
-- 64 rounds, and eight at the end
abbrev pub compress256_ands : ℕ → ℕ
compress256_ands a = 48 * (3 * a) + 64 * (2 + 7 * a) + 8 * a

-- a key of l bytes: n−1 for each of its words; where it is over one block, then the compressions that hash it
abbrev pub key_draws : Masked → Count → ℕ → ℕ
key_draws M n l =
    let H = M.standard in
    let hashed = ((l + H.length_bytes) / block_bytes H + 1) * M.draws n in
    choose (leb l (block_bytes H)) (16 * (n - 1)) (words_for H l * (n - 1) + hashed)

-- how many compressions HMAC makes of a message of l bytes
abbrev pub compressions : Hash → ℕ → ℕ
compressions H l = (l + H.length_bytes) / block_bytes H + 4

abbrev pub hmac_draws : Masked → Count → ℕ → ℕ
hmac_draws M n l = compressions M.standard l * M.draws n

-- ---- section 10: start makes two compressions, a feed of l bytes after `bytes` one for each block that it fills,
-- finish the rest
abbrev pub start_draws : Masked → Count → ℕ
start_draws M n = 2 * M.draws n

abbrev pub feed_draws : Masked → Count → ℕ → ℕ → ℕ
feed_draws M n bytes l = let block = block_bytes M.standard in (bytes % block + l) / block * M.draws n

abbrev pub finish_draws : Masked → Count → ℕ → ℕ
finish_draws M n bytes =
    let block = block_bytes M.standard in
    ((bytes % block + M.standard.length_bytes) / block + 2) * M.draws n

-- request (xii): the count that a state carries once so many bytes were fed: the words of its start, and of one feed of
-- them all
unfoldable pub state_draws : Masked → Count → ℕ → ℕ
state_draws M n bytes = start_draws M n + feed_draws M n 0 bytes

-- ---- the hashes in shares, by the code that a state carries: 0 is SHA-1, 1 is SHA-256. Both have words of four bytes
-- and a length of eight. The addition, of so many ANDs, may be any; the calls take that of section 5
abbrev by_code : {A : Type 0} → ℕ → A → A → A
by_code zero sha1 sha256 = sha1
by_code (suc code) sha1 sha256 = sha256

abbrev pub standard_of : Width → ℕ → Hash
standard_of k code =
    record {
      word_bytes = 4;
      start = by_code code (SHA1 k).start (SHA256 k).start;
      compress = by_code code (SHA1 k).compress (SHA256 k).compress;
      length_bytes = 8;
    }

abbrev pub hash_by : Width → Adder → ℕ → ℕ → Masked
hash_by k adder ands code =
    record {
      standard = standard_of k code;
      code = code;
      compress = by_code code (compress k adder) (compress256 k adder);
      draws = λ n. by_code code (compress_ands ands) (compress256_ands ands) * and_draws n;
    }

abbrev pub hash_of : Width → ℕ → Masked
hash_of k code = hash_by k (add k) k code

abbrev pub sha1 : Width → Masked
sha1 k = hash_of k 0

abbrev pub sha256 : Width → Masked
sha256 k = hash_of k 1

-- The outcome of each public call, at a width k: its answer, and every lent buffer afterwards. `came` is what the
-- output slice held.
use Rattle.std.specs.Prelude.{ℕ, ◌+◌, ◌-◌, ◌*◌, Bool, true, false, List, [], ◌∷◌, ◌++◌, eqb, leb, length}
use Rattle.std.specs.Int.Bits.{bit_xor}
use Rattle.words.specs.Word.{Width, Word, plus, minus}
use Rattle.rules.specs.declared.Answer.{Answer}
use Rattle.rules.specs.declared.Opened.{Opened}
use Rattle.rules.specs.Supply.{Draw, Count, Supply, Sharing, split, opened, opened_sum}
use Rattle.rules.specs.Numbers.{longest_key, longest_message, choose, both, power, allowed}
use Rattle.rules.specs.Numbers.{Test, test, first, settled, told}
use Rattle.rules.specs.Goubin.{b2a_record, a2b_record}
use Rattle.rules.specs.Shares.{refresh, expand, and, add}
use Rattle.rules.specs.Convert.{to_bool, to_arith}
use Rattle.rules.specs.Short.{to_arith_short}
use Rattle.rules.specs.Hash.{Bytes, digest_bytes}
use Rattle.rules.specs.Hmac.{Masked, used, chain_of, split_key, hmac_tag}
use Rattle.rules.specs.Counts.{refresh_draws, and_draws, add_draws, to_bool_draws, to_arith_draws, short_draws}
use Rattle.rules.specs.Counts.{key_draws, hmac_draws}

-- ---- two shares: working forms take plain numbers and refuse nothing
-- x − r, from x' and r with x = x' ⊕ r
abbrev pub b2a_two : Width → Word → Word → Word
b2a_two k x' r = minus k (bit_xor x' r) r

-- x ⊕ r, from A and r with x = A + r
abbrev pub a2b_two : Width → Word → Word → Word
a2b_two k A r = bit_xor (plus k A r) r

-- ---- two shares: recording forms give 0, or 3 where the record has not exactly its length
abbrev pub record_call : ℕ → List Word → List Word → ℕ × List Word
record_call size steps came =
    let number = first (test 3 (eqb (length came) size) ∷ []) in
    (number, settled number steps came)

abbrev pub b2a_record_call : Width → Word → Word → Word → List Word → ℕ × List Word
b2a_record_call k x' r G came = record_call 7 (b2a_record k x' r G) came

abbrev pub a2b_record_call : Width → Word → Word → Word → List Word → ℕ × List Word
a2b_record_call k A r G came = record_call (5 * k + 5) (a2b_record k A r G) came

-- ---- n shares: a call starts at place 0; after its own tests, 5 where the supply has fewer words than its rule draws
unfoldable pub call : {S : Type 0} → List Test → Draw S → S → Supply → Answer × S
call tests rule came ws =
    let made = rule ws 0 in
    let number = first (tests ++ (test 5 (leb made.1 (length ws)) ∷ [])) in
    (record { number = number; drawn = settled number made.1 0 }, settled number made.0 came)

abbrev pub split_call : Count → Word → Sharing → Supply → Answer × Sharing
split_call n value came = call (test 1 (allowed n) ∷ test 3 (eqb (length came) n) ∷ []) (split n value) came

-- one input of n shares, m shares out; `counted` is the test of n
abbrev pub one_tests : Bool → Count → Count → Sharing → Sharing → List Test
one_tests counted n m x came = test 1 counted ∷ test 2 (eqb (length x) n) ∷ test 3 (eqb (length came) m) ∷ []

abbrev pub one_call : Bool → Count → Count → Sharing → Draw Sharing → Sharing → Supply → Answer × Sharing
one_call counted n m x rule came = call (one_tests counted n m x came) rule came

-- two inputs of n shares, n shares out
abbrev pub two_tests : Count → Sharing → Sharing → Sharing → List Test
two_tests n x y came =
    test 1 (allowed n) ∷ test 2 (both (eqb (length x) n) (eqb (length y) n)) ∷ test 3 (eqb (length came) n) ∷ []

abbrev pub two_call : Count → Sharing → Sharing → Draw Sharing → Sharing → Supply → Answer × Sharing
two_call n x y rule came = call (two_tests n x y came) rule came

abbrev pub refresh_call : Count → Sharing → Sharing → Supply → Answer × Sharing
refresh_call n x = one_call (allowed n) n n x (refresh x)

abbrev pub expand_call : Count → Sharing → Sharing → Supply → Answer × Sharing
expand_call n x = one_call (allowed n) n (2 * n) x (expand x)

abbrev pub and_call : Count → Sharing → Sharing → Sharing → Supply → Answer × Sharing
and_call n x y = two_call n x y (and x y)

abbrev pub add_call : Width → Count → Sharing → Sharing → Sharing → Supply → Answer × Sharing
add_call k n x y = two_call n x y (add k x y)

abbrev pub a2b_call : Width → Count → Sharing → Sharing → Supply → Answer × Sharing
a2b_call k n a = one_call (allowed n) n n a (to_bool (add k) a)

abbrev pub b2a_call : Width → Count → Sharing → Sharing → Supply → Answer × Sharing
b2a_call k n x = one_call (allowed n) n n x (to_arith k (add k) refresh x)

abbrev pub b2a_short_call : Width → Count → Sharing → Sharing → Supply → Answer × Sharing
b2a_short_call k n x = one_call (power n) n n x (to_arith_short k x)

-- ---- a hash in shares, and HMAC
abbrev pub split_key_call : Masked → Count → Bytes → Sharing → Supply → Answer × Sharing
split_key_call M n key came =
    call
    (test 1 (allowed n) ∷ test 3 (eqb (length came) (16 * n)) ∷ test 4 (leb (length key) longest_key) ∷ [])
    (split_key M n key)
    came

abbrev pub hmac_call : Masked → Count → Sharing → Bytes → Bytes → Supply → Answer × Bytes
hmac_call M n key text came =
    call
    (test 1 (allowed n) ∷ test 2 (eqb (length key) (16 * n))
    ∷ test 3 (eqb (length came) (digest_bytes M.standard)) ∷ test 4 (leb (length text) longest_message) ∷ [])
    (hmac_tag M n key text)
    came

-- one compression, of a block into a chain record; refused, that is returned exactly as given
abbrev pub compressed : Masked → Count → Sharing → Sharing → Draw Sharing
compressed M n chain block ws at =
    let made = M.compress n (used M.standard n chain) block ws at in
    (chain_of M.standard n made.0, made.1)

abbrev pub compress_call : Masked → Count → Sharing → Sharing → Supply → Answer × Sharing
compress_call M n chain block =
    call (test 1 (allowed n) ∷ test 2 (eqb (length block) (16 * n)) ∷ []) (compressed M n chain block) chain

-- ---- opening: no count, and the word 0 where it is refused
abbrev pub open_call : Count → Sharing → Word → Opened
open_call n x word =
    let number = first (test 1 (allowed n) ∷ test 2 (eqb (length x) n) ∷ []) in
    record { number = number; word = settled number word 0 }

abbrev pub open_xor_call : Count → Sharing → Opened
open_xor_call n x = open_call n x (opened x)

abbrev pub open_sum_call : Width → Count → Sharing → Opened
open_sum_call k n a = open_call n a (opened_sum k a)

-- ---- comparing: 1 where two texts have the same length and the same bytes, else 0
unfoldable pub same : Bytes → Bytes → Bool
same [] [] = true
same [] (y ∷ b) = false
same (x ∷ a) [] = false
same (x ∷ a) (y ∷ b) = both (eqb x y) (same a b)

abbrev pub same_tag : Bytes → Bytes → ℕ
same_tag a b = choose (same a b) 1 0

-- ---- queries: how many words a call will draw
abbrev pub query : List Test → ℕ → Answer
query tests drawn = record { number = first tests; drawn = told tests drawn }

abbrev pub split_words : Count → Answer
split_words n = query (test 1 (allowed n) ∷ []) (n - 1)

abbrev pub refresh_words : Count → Answer
refresh_words n = query (test 1 (allowed n) ∷ []) (refresh_draws n)

abbrev pub expand_words : Count → Answer
expand_words n = query (test 1 (allowed n) ∷ []) n

abbrev pub and_words : Count → Answer
and_words n = query (test 1 (allowed n) ∷ []) (and_draws n)

abbrev pub add_words : Width → Count → Answer
add_words k n = query (test 1 (allowed n) ∷ []) (add_draws k n)

abbrev pub a2b_words : Width → Count → Answer
a2b_words k n = query (test 1 (allowed n) ∷ []) (to_bool_draws (add_draws k) n)

abbrev pub b2a_words : Width → Count → Answer
b2a_words k n = query (test 1 (allowed n) ∷ []) (to_arith_draws (add_draws k) refresh_draws n)

abbrev pub b2a_short_words : Count → Answer
b2a_short_words n = query (test 1 (power n) ∷ []) (short_draws n)

abbrev pub split_key_words : Masked → Count → ℕ → Answer
split_key_words M n length = query (test 1 (allowed n) ∷ test 4 (leb length longest_key) ∷ []) (key_draws M n length)

abbrev pub compress_words : Masked → Count → Answer
compress_words M n = query (test 1 (allowed n) ∷ []) (M.draws n)

abbrev pub hmac_words : Masked → Count → ℕ → Answer
hmac_words M n length = query (test 1 (allowed n) ∷ test 4 (leb length longest_message) ∷ []) (hmac_draws M n length)

-- Words of k bits, as numbers below 2^k. XOR and AND are the library's bitXor and bitAnd.
use Rattle.std.specs.Prelude.{ℕ, ◌+◌, ◌-◌, ◌*◌, ◌%◌, ◌^◌}

-- how many bits a word has
abbrev pub Width : Type 0
Width = ℕ

-- a word of k bits, as a number below 2^k
abbrev pub Word : Type 0
Word = ℕ

-- a + b modulo 2^k
unfoldable pub plus : Width → Word → Word → Word
plus k a b = (a + b) % 2 ^ k

-- a − b modulo 2^k
unfoldable pub minus : Width → Word → Word → Word
minus k a b = (a + (2 ^ k - b)) % 2 ^ k

-- v moved s places up; what leaves the k bits is lost
unfoldable pub shift : Width → ℕ → Word → Word
shift k s v = (v * 2 ^ s) % 2 ^ k

-- 2v modulo 2^k
abbrev pub double : Width → Word → Word
double k v = shift k 1 v

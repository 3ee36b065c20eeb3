-- Several words in shares, one after the other: `Good x X` is what is said of the shares x of the word X.
use Prim.Native.Nat.{ℕ, zero, suc, ◌+◌, ◌*◌, ◌≤◌, ◌<◌}
use mathlib.Core.Path.{◌≡◌, refl, sym, ap, ap₂, ◌∙◌, subst}
use mathlib.Core.List.{List, [], ◌∷◌, ◌++◌, append-nil, append_assoc}
use native.Mathlib.Nat.{suc-mul, zero-mul, zero-add, suc-add}
use native.Mathlib.Omega.{arith}
use lib.ListN.{length, get_or, take, drop, length-append, length-drop, take-append-drop}
use lib.Seq.{length-take-le, take_at, drop_at, take-append-add, drop-append-add}
use Rattle.rules.specs.Supply.{Shares, opened}
use Rattle.rules.specs.Sha1.{word, open_words}

-- m words, one after the other
pub data Goods (Good : List ℕ → ℕ → Type 0) : ℕ → List ℕ → List ℕ → Type 0 where
  none : Goods Good 0 [] []
  more : {m X : ℕ} {x s S : List ℕ} → Good x X → Goods Good m s S → Goods Good (suc m) (x ++ s) (X ∷ S)

pub length_open : (n m : ℕ) (z : List ℕ) → length (open_words n m z) ≡ m
unfolding open_words
length_open n zero z = refl
length_open n (suc m) z = ap suc (length_open n m (drop n z))

module _ {Good : List ℕ → ℕ → Type 0} where
  pub one : {x : List ℕ} {X : ℕ} → Good x X → Goods Good 1 x (X ∷ [])
  one {x} {X} g = subst (λ s. Goods Good 1 s (X ∷ [])) (append-nil x) (more g none)

  pub join : {m p : ℕ} {x y X Y : List ℕ} → Goods Good m x X → Goods Good p y Y → Goods Good (m + p) (x ++ y) (X ++ Y)
  join none h = rw zero-add h
  join (more g gs) h = rw (suc-add, append_assoc) (more g (join gs h))

  pub how_many : {m : ℕ} {s S : List ℕ} → Goods Good m s S → length S ≡ m
  how_many none = refl
  how_many (more g gs) = ap suc (how_many gs)

  module _ {n : ℕ} (size : (x : List ℕ) (X : ℕ) → Good x X → length x ≡ n) where
    pub goods_size : {m : ℕ} {s S : List ℕ} → Goods Good m s S → length s ≡ m * n
    goods_size none = sym (zero-mul n)
    goods_size (more {m} {X} {x} {s} g gs) = length-append x s ∙ omega (arith, size x X g, goods_size gs, suc-mul m n)

    pub word_of : {m : ℕ} {s S : List ℕ} (w : ℕ) → w < m → Goods Good m s S → Good (word n w s) (get_or S w 0)
    unfolding word
    word_of w h none = absurd (omega arith)
    word_of zero h (more {m} {X} {x} {s} g gs) = rw (zero-mul n, take_at x s n (size x X g)) g
    word_of (suc w) h (more {m} {X} {x} {s} g gs) =
        let e : suc w * n ≡ length x + w * n = omega (arith, suc-mul w n, size x X g) in
        rw (e, drop-append-add x s (w * n)) (word_of w (omega arith) gs)

    -- the first p words, and those after them
    pub goods_front : {m : ℕ} {s S : List ℕ} (p : ℕ) → p ≤ m → Goods Good m s S
        → Goods Good p (take (p * n) s) (take p S)
    goods_front zero h gs = rw (zero-mul n) none
    goods_front (suc p) h none = absurd (omega arith)
    goods_front (suc p) h (more {m} {X} {x} {s} g gs) =
        let e : suc p * n ≡ length x + p * n = omega (arith, suc-mul p n, size x X g) in
        rw (e, take-append-add x s (p * n)) (more g (goods_front p (omega arith) gs))

    pub goods_rest : {m q : ℕ} {s S : List ℕ} (p : ℕ) → m ≡ p + q → Goods Good m s S
        → Goods Good q (drop (p * n) s) (drop p S)
    goods_rest {m} {q} {s} {S} zero e gs = rw (zero-mul n) (subst (λ i. Goods Good i s S) (e ∙ zero-add q) gs)
    goods_rest (suc p) e none = absurd (omega arith)
    goods_rest (suc p) e (more {m} {X} {x} {s} g gs) =
        let f : suc p * n ≡ length x + p * n = omega (arith, suc-mul p n, size x X g) in
        rw (f, drop-append-add x s (p * n)) (goods_rest p (omega arith) gs)

  module _ {n : ℕ} (shared : (x : List ℕ) (X : ℕ) → Good x X → Shares n X x) where
    pub goods_open : {m : ℕ} {s S : List ℕ} → Goods Good m s S → open_words n m s ≡ S
    unfolding open_words
    goods_open none = refl
    goods_open (more {m} {X} {x} {s} g gs) =
        let h = shared x X g in
        rw (take_at x s n h.0, drop_at x s n h.0) (ap₂ (λ a (l : List ℕ). a ∷ l) h.1 (goods_open gs))

  -- any shares, cut into words
  pub goods_of : (n m : ℕ) (s : List ℕ) → length s ≡ m * n
      → ((i : ℕ) (x : List ℕ) → length x ≡ n → opened x ≡ get_or (open_words n m s) i 0
      → Good x (get_or (open_words n m s) i 0))
      → Goods Good m s (open_words n m s)
  unfolding open_words
  goods_of n zero [] l h = none
  goods_of n zero (a ∷ s) l h = absurd (omega (arith, zero-mul n))
  goods_of n (suc m) s l h =
      let left : length (drop n s) ≡ m * n = length-drop n s ∙ omega (arith, suc-mul m n) in
      subst (λ t. Goods Good (suc m) t (open_words n (suc m) s)) (take-append-drop n s)
      (more (h 0 (take n s) (length-take-le n s (omega (arith, suc-mul m n))) refl)
      (goods_of n m (drop n s) left (λ i. h (suc i))))

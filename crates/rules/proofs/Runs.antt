-- Runs of feeds from a start: how the message is cut has no say, how many words are drawn in all, and whose tag it is.
use Prim.Native.Nat.{ℕ, ◌+◌, ◌*◌, ◌/◌, ◌%◌, ◌≤◌, ◌<◌}
use mathlib.Core.Path.{◌≡◌, refl, sym, ap, ap₂, ◌∙◌, subst}
use mathlib.Core.List.{List, [], ◌∷◌, ◌++◌, append_assoc, append-nil}
use native.Mathlib.Nat.{zero-add, add-zero, zero-mul, add-mul, mul_assoc}
use native.Mathlib.Omega.{arith}
use lib.ListN.{length, get_or, take, drop, length-append, length-drop, take-append-drop, get_or-append}
use lib.Seq.{get_or-append-add, get_or-take, length-take-le, take_at, drop_at, drop-nil}
use borrow.Author.Tests.{leb-true}
use Rattle.rules.specs.declared.State.{State}
use Rattle.rules.specs.Supply.{Rule, Agree, Words}
use Rattle.rules.specs.Numbers.{longest_message}
use Rattle.rules.specs.Hash.{Hash, block_bytes, chain_words, words_of, ending, blocks as blocks_of}
use Rattle.rules.specs.Hmac.{Masked, tag_of}
use Rattle.rules.specs.Counts.{feed_draws, finish_draws}
use Rattle.rules.specs.Calls.{call}
use Rattle.rules.specs.Stream.{Feeds, state, full_blocks, feed, finish, feed_call, finish_call, message, after}
use Rattle.rules.specs.Stream.{drawn, Accepted, fed_from}
use Rattle.rules.proofs.Rule.{said, counted, alike}
use Rattle.rules.proofs.Bytes.{length_words, words_join, words_front, words_split}
use Rattle.rules.proofs.Conversion.{words_take, words_drop}
use Rattle.rules.proofs.Hashes.{Proper, keyed_words, blocks_joined, last_blocks, hmac_of}
use Rattle.rules.proofs.Goods.{Goods, goods_size}
use Rattle.rules.proofs.MaskedHmac.{Keeps}
use Rattle.rules.proofs.Sizes.{Sized, words_size}
use Rattle.rules.proofs.Streaming.{Readable, left_over, whole_part, full_rule, dropped, counted_so, ends_so}
use Rattle.rules.proofs.Streaming.{Made, made_fed, made_finished, fed_rule, finished_rule, nothing}
use Rattle.rules.proofs.Streaming.{joined, rest_size}
use Rattle.rules.proofs.Calls.{passed, holds}

-- ---- words drawn, and words after them
module _ (d : ℕ) (ws later : List ℕ) (enough : d ≤ length ws) where
  drawn_so : length (take d ws) ≡ d
  drawn_so = length-take-le d ws enough

  heads : Agree d (take d ws ++ later) 0 ws 0
  heads i h =
      rw zero-add (get_or-append (take d ws) later 0 i (omega (arith, drawn_so)) ∙ get_or-take d ws i 0 h)

  tails : (e : ℕ) → Agree e (take d ws ++ later) d later 0
  tails e i h =
      ap (λ t. get_or (take d ws ++ later) (t + i) 0) (sym drawn_so) ∙ get_or-append-add (take d ws) later i 0
      ∙ ap (λ t. get_or later t 0) (sym (zero-add i))

-- ---- an accepted feed, and an accepted finish
module _ (M : Masked) (s : State) (p ws : List ℕ) (ok : (feed_call M s p ws).number ≡ 0) where
  pub fed_state : (feed_call M s p ws).state ≡ (feed M s p ws 0).0
  unfolding feed_call call
  fed_state = rw ok

  pub fed_drawn : (feed_call M s p ws).drawn ≡ (feed M s p ws 0).1
  unfolding feed_call call
  fed_drawn = rw ok

  pub fed_enough : (feed M s p ws 0).1 ≤ length ws
  unfolding feed_call call
  fed_enough = leb-true _ _ (holds _ _ (passed _ ok).1.1.0)

  pub fed_short : s.bytes + length p ≤ longest_message
  unfolding feed_call call
  fed_short = leb-true _ _ (holds _ _ (passed _ ok).1.0)

module _ (M : Masked) (s : State) (came ws : List ℕ) (ok : (finish_call M s came ws).0.number ≡ 0) where
  pub finished_tag : (finish_call M s came ws).1 ≡ (finish M s ws 0).0
  unfolding finish_call call
  finished_tag = rw ok

  pub finished_drawn : (finish_call M s came ws).0.drawn ≡ (finish M s ws 0).1
  unfolding finish_call call
  finished_drawn = rw ok

-- ---- a state as start and feed make it
module _ (M : Masked) (n : ℕ) (some : 0 < n) (keeps : Keeps M n (λ v. Unit {0}) (Sized n))
    (sixty-four : block_bytes M.standard ≡ 64) where
  abbrev H : Hash
  H = M.standard

  pub record Clean (s : State) : Type 0 where
    pub bytes : ℕ
    pub inner : List ℕ
    pub outer : List ℕ
    pub waits : List ℕ
    pub made : Made M n bytes inner outer waits
    pub is : s ≡ state M n bytes inner outer waits

  module _ (bytes : ℕ) (inner outer waits : List ℕ) (made : Made M n bytes inner outer waits) (piece : List ℕ) where
    after_piece : Rule (feed_draws M n bytes (length piece)) Clean (feed M (state M n bytes inner outer waits) piece)
    after_piece =
        alike (made_fed M n bytes inner outer waits made piece)
        (said
        (fed_rule keeps bytes waits made.waits_size
        (words_size M n some keeps (chain_words H) inner made.inner_size) outer piece
        (λ j i. tt))
        refl
        (λ t f. record {
          bytes = bytes + length piece;
          inner = f.chain;
          outer = outer;
          waits = _;
          made = record {
            inner_size = goods_size keeps.size f.good;
            outer_size = made.outer_size;
            waits_size = rest_size M n bytes inner outer waits sixty-four made.waits_size piece;
          };
          is = f.is;
        }))

    -- with another after it, they are one piece
    two_pieces : (q ws : List ℕ) (at : ℕ) → (let s = state M n bytes inner outer waits in
        feed M s (piece ++ q) ws at ≡ (let r = feed M s piece ws at in feed M r.0 q ws r.1))
    two_pieces q ws at =
        let first = waits ++ piece in
        let many = length first / block_bytes H in
        let r = full_blocks M n many first inner ws at in
        let sized = full_rule keeps many first (λ j i. tt)
        (words_size M n some keeps (chain_words H) inner made.inner_size) in
        let next : Made M n (bytes + length piece) r.0 outer (drop (many * block_bytes H) first) =
        record {
          inner_size = goods_size keeps.size (sized.makes ws at);
          outer_size = made.outer_size;
          waits_size = rest_size M n bytes inner outer waits sixty-four made.waits_size piece;
        } in
        made_fed M n bytes inner outer waits made (piece ++ q) ws at
        ∙ joined M n bytes inner outer waits sixty-four made.waits_size piece q ws at
        ∙ sym (made_fed M n (bytes + length piece) r.0 outer (drop (many * block_bytes H) first) next q ws r.1)
        ∙ sym (ap (λ (t : State × ℕ). feed M t.0 q ws t.1)
        (made_fed M n bytes inner outer waits made piece ws at))

  -- ---- the same of any such state
  module _ (s : State) (clean : Clean s) where
    pub piece_rule : (p : List ℕ) → Rule (feed_draws M n clean.bytes (length p)) Clean (feed M s p)
    piece_rule p =
        subst (λ t. Rule (feed_draws M n clean.bytes (length p)) Clean (feed M t p)) (sym clean.is)
        (after_piece clean.bytes clean.inner clean.outer clean.waits clean.made p)

    both_pieces : (p q ws : List ℕ) (at : ℕ)
        → feed M s (p ++ q) ws at ≡ (let r = feed M s p ws at in feed M r.0 q ws r.1)
    both_pieces p q ws at =
        subst (λ t. feed M t (p ++ q) ws at ≡ (let r = feed M t p ws at in feed M r.0 q ws r.1)) (sym clean.is)
        (two_pieces clean.bytes clean.inner clean.outer clean.waits clean.made p q ws at)

    no_piece : (ws : List ℕ) (at : ℕ) → feed M s [] ws at ≡ (s, at)
    no_piece ws at =
        subst (λ t. feed M t [] ws at ≡ (t, at)) (sym clean.is)
        (made_fed M n clean.bytes clean.inner clean.outer clean.waits clean.made [] ws at
        ∙ nothing M n clean.bytes clean.inner clean.outer clean.waits ws at sixty-four
        clean.made.waits_size)

  -- ---- a run is one piece: the message, fed with the words drawn
  pub run_is : (fs : Feeds) (s : State) → Clean s → Accepted M s fs → after M s fs
      ≡ (feed M s (message fs) (drawn M s fs) 0).0
  unfolding after message drawn Accepted
  run_is [] s clean ok = sym (ap (λ (t : State × ℕ). t.0) (no_piece s clean [] 0))
  run_is (f ∷ fs) s clean ok =
      let p = f.0 in
      let ws = f.1 in
      let rule = piece_rule s clean p in
      let d = feed_draws M n clean.bytes (length p) in
      let place : (feed M s p ws 0).1 ≡ d = rule.place ws 0 ∙ zero-add d in
      let t = (feed_call M s p ws).state in
      let next : Clean t = subst Clean (sym (fed_state M s p ws ok.0)) (rule.makes ws 0) in
      let later = drawn M t fs in
      let A = take d ws ++ later in
      let r = feed M s p A 0 in
      let enough : d ≤ length ws = rw place at (fed_enough M s p ws ok.0) in
      let same : r.0 ≡ t = rule.same A ws 0 0 (heads d ws later enough) ∙ sym (fed_state M s p ws ok.0) in
      let end : r.1 ≡ d = rule.place A 0 ∙ zero-add d in
      let m = message fs in
      rw (fed_drawn M s p ws ok.0, place)
      (run_is fs t next ok.1
      ∙ sym ((piece_rule t next m).same A later d 0 (tails d ws later enough _))
      ∙ ap₂ (λ u i. (feed M u m A i).0) (sym same) (sym end)
      ∙ sym (ap (λ (u : State × ℕ). u.0) (both_pieces s clean p m A 0)))

  -- ---- any cutting: the same bytes, and the same words joined in order
  pub any_cutting : (s : State) → Clean s → (fs gs : Feeds) → Accepted M s fs → Accepted M s gs
      → message fs ≡ message gs → drawn M s fs ≡ drawn M s gs → after M s fs ≡ after M s gs
  any_cutting s clean fs gs f g bytes words =
      run_is fs s clean f ∙ ap₂ (λ m ws. (feed M s m ws 0).0) bytes words ∙ sym (run_is gs s clean g)

  -- ---- how many words a run draws, and how many bytes it leaves
  grown : (s : State) (p ws : List ℕ) (at : ℕ) → (feed M s p ws at).0.bytes ≡ s.bytes + length p
  unfolding feed state
  grown s p ws at = refl

  clean_bytes : (s : State) (clean : Clean s) → clean.bytes ≡ s.bytes
  unfolding state
  clean_bytes s clean = sym (ap (λ (t : State). t.bytes) clean.is)

  parts : (b p l : ℕ) → feed_draws M n b p + feed_draws M n (b + p) l ≡ feed_draws M n b (p + l)
  parts b p l =
      let e : (b % 64 + p) / 64 + ((b + p) % 64 + l) / 64 ≡ (b % 64 + (p + l)) / 64 = omega arith in
      rw sixty-four (sym (add-mul ((b % 64 + p) / 64) (((b + p) % 64 + l) / 64) (M.draws n))
      ∙ ap (λ t. t * M.draws n) e)

  pub run_counts : (fs : Feeds) (s : State) → Clean s → Accepted M s fs
      → (length (drawn M s fs) ≡ feed_draws M n s.bytes (length (message fs)))
      × ((after M s fs).bytes ≡ s.bytes + length (message fs))
  unfolding after message drawn Accepted
  run_counts [] s clean ok = (none_drawn s.bytes, sym (add-zero s.bytes))
    where
      none_drawn : (b : ℕ) → 0 ≡ feed_draws M n b 0
      none_drawn b =
          let e : (b % 64 + 0) / 64 ≡ 0 = omega arith in
          rw (sixty-four, e) (sym (zero-mul (M.draws n)))
  run_counts (f ∷ fs) s clean ok =
      let p = f.0 in
      let ws = f.1 in
      let rule = piece_rule s clean p in
      let d = feed_draws M n s.bytes (length p) in
      let t = (feed_call M s p ws).state in
      let is = fed_state M s p ws ok.0 in
      let next : Clean t = subst Clean (sym is) (rule.makes ws 0) in
      let place : (feed M s p ws 0).1 ≡ d =
      rule.place ws 0 ∙ zero-add _ ∙ ap (λ b. feed_draws M n b (length p)) (clean_bytes s clean) in
      let size : length (take (feed_call M s p ws).drawn ws) ≡ d =
      rw (fed_drawn M s p ws ok.0) (length-take-le _ ws (fed_enough M s p ws ok.0) ∙ place) in
      let more = run_counts fs t next ok.1 in
      let bytes : t.bytes ≡ s.bytes + length p = ap (λ (u : State). u.bytes) is ∙ grown s p ws 0 in
      let all = length-append p (message fs) in (
        length-append (take (feed_call M s p ws).drawn ws) (drawn M t fs)
            ∙ ap₂ (λ a b. a + b) size (more.0 ∙ ap (λ b. feed_draws M n b (length (message fs))) bytes)
            ∙ parts s.bytes (length p) (length (message fs)) ∙ ap (feed_draws M n s.bytes) (sym all),
        more.1 ∙ omega (arith, bytes, all),
      )

  pub run_clean : (fs : Feeds) (s : State) → Clean s → Accepted M s fs → Clean (after M s fs)
  unfolding after Accepted
  run_clean [] s clean ok = clean
  run_clean (f ∷ fs) s clean ok =
      let next = (piece_rule s clean f.0).makes f.1 0 in
      run_clean fs _ (subst Clean (sym (fed_state M s f.0 f.1 ok.0)) next) ok.1

  pub finish_counts : Proper M.standard → (s : State) → Clean s
      → Rule (finish_draws M n s.bytes) (λ t. Unit {0}) (finish M s)
  finish_counts proper s clean =
      let sized = words_size M n some keeps (chain_words H) in
      let m = clean.made in
      counted
      (alike
      (λ ws at.
      ap (λ t. finish M t ws at) clean.is
      ∙ made_finished M n clean.bytes clean.inner clean.outer clean.waits m ws at)
      (said
      (finished_rule keeps clean.bytes clean.waits m.waits_size
      (sized clean.inner m.inner_size) proper some
      (sized clean.outer m.outer_size) (λ i. tt))
      refl (λ t f. tt)))
      (ap (finish_draws M n) (clean_bytes s clean))

-- ---- what a state holds of a message, under a key in words
module _ {M : Masked} {n : ℕ} {Fits : ℕ → Type 0} {Good : List ℕ → ℕ → Type 0} (keeps : Keeps M n Fits Good)
    (proper : Proper M.standard) (sixty-four : block_bytes M.standard ≡ 64) (KEY : List ℕ) where
  abbrev S : Hash
  S = M.standard

  abbrev B : ℕ
  B = block_bytes S

  abbrev keyed : ℕ → List ℕ
  keyed b = S.compress S.start (keyed_words S b KEY)

  abbrev inner_of : List ℕ → List ℕ
  inner_of text = blocks_of S (length text / B) (words_of S.word_bytes (length text / B * 16) text) (keyed 0x36)

  pub record Holds (text : List ℕ) (s : State) : Type 0 where
    pub inner : List ℕ
    pub outer : List ℕ
    pub is : s ≡ state M n (length text) inner outer (drop (length text / B * B) text)
    pub inner_good : Goods Good (chain_words S) inner (inner_of text)
    pub outer_good : Goods Good (chain_words S) outer (keyed 0x5c)

  pub holds_none : (s : State) (inner outer : List ℕ) → s ≡ state M n 0 inner outer []
      → Goods Good (chain_words S) inner (keyed 0x36)
      → Goods Good (chain_words S) outer (keyed 0x5c) → Holds [] s
  unfolding blocks_of
  holds_none s inner outer is gi go =
      record {
        inner = inner;
        outer = outer;
        is = is ∙ ap (state M n 0 inner outer) (sym (drop-nil (0 / B * B)));
        inner_good = rw sixty-four gi;
        outer_good = go;
      }

  module _ (text : List ℕ) (s : State) (holds : Holds text s) where
    abbrev waits : List ℕ
    waits = drop (length text / B * B) text

    waits_size : length waits ≡ length text % B
    waits_size = length-drop (length text / B * B) text ∙ left_over B sixty-four (length text)

    made : Made M n (length text) holds.inner holds.outer waits
    made =
        record {
          inner_size = goods_size keeps.size holds.inner_good;
          outer_size = goods_size keeps.size holds.outer_good;
          waits_size = waits_size;
        }

    -- a piece more
    module _ (piece : List ℕ) (readable : Readable keeps (waits ++ piece)) where
      all : List ℕ
      all = text ++ piece

      more : ℕ
      more = length (waits ++ piece) / B

      abbrev none : length {A = ℕ} [] ≡ 0 % B
      none = rw sixty-four refl

      many_so : length all / B ≡ length text / B + more
      unfolding all more
      many_so = counted_so M n 0 [] [] [] sixty-four none text piece

      rest_so : drop (more * B) (waits ++ piece) ≡ drop (length all / B * B) all
      unfolding all more
      rest_so = sym (ap (λ t. drop (t * B) all) many_so ∙ ends_so M n 0 [] [] [] sixty-four none text piece)

      chain_so : blocks_of S more (words_of S.word_bytes (more * 16) (waits ++ piece)) (inner_of text) ≡ inner_of all
      unfolding all more
      chain_so =
          let size = S.word_bytes in
          let m = length text / B in
          let X = words_of size (m * 16) text in
          let Y = words_of size (more * 16) (waits ++ piece) in
          let front : words_of size (m * 16) all ≡ X =
          words_front size (m * 16) text piece (rw (mul_assoc m 16 size) (whole_part B sixty-four (length text))) in
          let rest : drop (m * 16 * size) all ≡ waits ++ piece =
          ap (λ t. drop t all) (mul_assoc m 16 size) ∙ dropped M n 0 [] [] [] sixty-four none text piece in
          let split : words_of size ((m + more) * 16) all ≡ X ++ Y =
          ap (λ t. words_of size t all) (add-mul m more 16) ∙ words_split size (m * 16) (more * 16) all
          ∙ ap₂ (λ x t. x ++ words_of size (more * 16) t) front rest in
          sym (ap (λ t. blocks_of S t (words_of size (t * 16) all) (keyed 0x36)) many_so
          ∙ ap (λ t. blocks_of S (m + more) t (keyed 0x36)) split
          ∙ blocks_joined S proper m more X Y (keyed 0x36) (length_words size (m * 16) text))

      pub holds_more : (ws : List ℕ) (at : ℕ) → Holds (text ++ piece) (feed M s piece ws at).0
      unfolding all more
      holds_more ws at =
          let h = holds in
          let f = (fed_rule keeps (length text) waits waits_size h.inner_good
          h.outer piece readable).makes ws at in
          let reads : (feed M s piece ws at).0 ≡ (fed_from M n (length text) h.inner h.outer waits piece ws at).0 =
          ap (λ t. (feed M t piece ws at).0) h.is
          ∙ ap (λ (r : State × ℕ). r.0) (made_fed M n (length text) h.inner h.outer waits made piece ws at) in
          record {
            inner = f.chain;
            outer = h.outer;
            is = reads ∙ f.is ∙ ap₂ (λ l t. state M n l f.chain h.outer t)
                (sym (length-append text piece)) rest_so;
            inner_good = rw chain_so at f.good;
            outer_good = h.outer_good;
          }

    -- the tag of what it holds
    module _ (some : 0 < n) where
      abbrev last : List ℕ
      last = ending S ((length text / B + 1) * B) waits

      pub record Tag (t : List ℕ) : Type 0 where
        pub chain : List ℕ
        pub is : t ≡ tag_of S n chain
        pub good : Goods Good (chain_words S) chain (hmac_of S KEY text)

      digest_so : blocks_of S (length last / 16) last (inner_of text)
          ≡ (let W = ending S B text in blocks_of S (length W / 16) W (keyed 0x36))
      digest_so =
          let m = length text / B in
          let size = S.word_bytes in
          let front = take (m * B) text in
          let whole : front ++ waits ≡ text = take-append-drop (m * B) text in
          let sized : length front ≡ m * B = length-take-le (m * B) text (whole_part B sixty-four (length text)) in
          let words : words_of size (m * 16) front ≡ words_of size (m * 16) text =
          sym (words_front size (m * 16) front waits (rw (mul_assoc m 16 size) (omega (arith, sized))))
          ∙ ap (words_of size (m * 16)) whole in
          ap (λ t. blocks_of S (length last / 16) last (blocks_of S m t (keyed 0x36))) (sym words)
          ∙ sym (last_blocks S proper m front waits (keyed 0x36) sized)
          ∙ ap (λ t. let W = ending S B t in blocks_of S (length W / 16) W (keyed 0x36)) whole

      pub tag_rule : ((i : ℕ) → Fits (get_or last i 0)) → Rule (finish_draws M n (length text)) Tag (finish M s)
      unfolding hmac_of
      tag_rule u =
          let h = holds in
          alike
          (λ ws at.
          ap (λ t. finish M t ws at) h.is
          ∙ made_finished M n (length text) h.inner h.outer waits made ws at)
          (said
          (finished_rule keeps (length text) waits waits_size h.inner_good proper some h.outer_good u)
          refl
          (λ t f. record { chain = f.chain; is = f.is; good = rw digest_so at f.good }))

  -- ---- over a run, where the bytes of a message may enter
  module _ (reads : (t : List ℕ) → Words 8 t → Readable keeps t) where
    pub holds_run : (fs : Feeds) (text : List ℕ) (s : State) → Holds text s → Words 8 text → Words 8 (message fs)
        → Accepted M s fs → Holds (text ++ message fs) (after M s fs)
    unfolding after message Accepted
    holds_run [] text s holds bytes more ok = subst (λ t. Holds t s) (sym (append-nil text)) holds
    holds_run (f ∷ fs) text s holds bytes more ok =
        let p = f.0 in
        let m = message fs in
        let one : Words 8 p = rw (take_at p m (length p) refl) at (words_take 8 (length p) (p ++ m) more) in
        let later : Words 8 m = rw (drop_at p m (length p) refl) at (words_drop 8 (length p) (p ++ m) more) in
        let rest = words_drop 8 (length text / B * B) text bytes in
        let readable = reads _ (words_join 8 (drop (length text / B * B) text) p rest one) in
        let next = subst (Holds (text ++ p)) (sym (fed_state M s p f.1 ok.0))
        (holds_more text s holds p readable f.1 0) in
        rw (append_assoc text p m) at
        (holds_run fs (text ++ p) _ next (words_join 8 text p bytes one) later ok.1)

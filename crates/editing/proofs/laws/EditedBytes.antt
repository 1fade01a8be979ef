-- A table's bytes after some were written: those of the changed words. Assumes nothing.
use Rattle.std.specs.Prelude.{ℕ, zero, suc, ◌+◌, ◌*◌, ◌-◌, ◌/◌, ◌%◌, ◌^◌, ◌≤◌, ◌<◌, ◌≡◌, refl, length, get_or}
use Rattle.std.proofs.Common.{arith, ◌∙◌, take-append-drop, length-take-le, take_at, drop_at, get_or-append-add, get_or-drop}
use Rattle.std.proofs.Math.Path.{sym, ap}
use mathlib.Core.List.{List, [], ◌∷◌, ◌++◌, flat_map, append_assoc, append-nil}
use Rattle.std.proofs.Math.Option.{none, some}
use Rattle.std.proofs.Math.ListN.{take, drop, length-append, length-drop, get_or-append}
use Rattle.std.proofs.Math.Seq.{drop-length, take-append-le}
use Rattle.lists.specs.Lists.{spliced}
use Rattle.lists.specs.Appending.{Appended}
use Rattle.lists.proofs.laws.GivenLaws.{flat_map_append}
use Rattle.rule.specs.Words.{words_of, bytes_of, word}
use Rattle.rule.specs.Outcome.{overwritten}
use Rattle.rule.proofs.laws.ServiceLaws.{words_of_bytes, length_of_bytes}
use Rattle.edits.specs.Edits.{with_metric_bits, with_lower_count, changed_words}

-- Bytes that make whole words are those of the words.
pub bytes_back : (t : List ℕ) → ((i : ℕ) → get_or t i 0 < 256) → length t % 4 ≡ 0 → flat_map bytes_of (words_of t) ≡ t
unfolding words_of flat_map
bytes_back [] f e = refl
bytes_back (a ∷ []) f e = absurd (omega (arith, e))
bytes_back (a ∷ b ∷ []) f e = absurd (omega (arith, e))
bytes_back (a ∷ b ∷ c ∷ []) f e = absurd (omega (arith, e))
bytes_back (a ∷ b ∷ c ∷ d ∷ t) f e =
    λ j. first (f 0) (f 1) (f 2) (f 3) j ∷ second (f 0) (f 1) (f 2) (f 3) j ∷ third (f 0) (f 1) (f 2) (f 3) j ∷ fourth (f 0) (f 1) (f 2) (f 3) j
    ∷ bytes_back t (λ i. f (suc (suc (suc (suc i))))) (omega (arith, e)) j
  where
    first : a < 256 → b < 256 → c < 256 → d < 256 → (((a * 256 + b) * 256 + c) * 256 + d) / 2 ^ 24 ≡ a
    first l m n o = omega (arith, l, m, n, o)

    second : a < 256 → b < 256 → c < 256 → d < 256 → (((a * 256 + b) * 256 + c) * 256 + d) / 2 ^ 16 % 256 ≡ b
    second l m n o = omega (arith, l, m, n, o)

    third : a < 256 → b < 256 → c < 256 → d < 256 → (((a * 256 + b) * 256 + c) * 256 + d) / 2 ^ 8 % 256 ≡ c
    third l m n o = omega (arith, l, m, n, o)

    fourth : a < 256 → b < 256 → c < 256 → d < 256 → (((a * 256 + b) * 256 + c) * 256 + d) % 256 ≡ d
    fourth l m n o = omega (arith, l, m, n, o)

-- The bytes of the first words, and of the rest.
module _ (ws : List ℕ) (k : ℕ) (l : k ≤ length ws) where
  split : flat_map bytes_of ws ≡ flat_map bytes_of (take k ws) ++ flat_map bytes_of (drop k ws)
  split = ap (flat_map bytes_of) (sym (take-append-drop k ws)) ∙ flat_map_append bytes_of (take k ws) (drop k ws)

  front_length : length (flat_map bytes_of (take k ws)) ≡ 4 * k
  front_length = omega (arith, length_of_bytes (take k ws), length-take-le k ws l)

  pub first_bytes : take (4 * k) (flat_map bytes_of ws) ≡ flat_map bytes_of (take k ws)
  first_bytes = ap (take (4 * k)) split ∙ take_at (flat_map bytes_of (take k ws)) (flat_map bytes_of (drop k ws)) (4 * k) front_length

  pub rest_bytes : drop (4 * k) (flat_map bytes_of ws) ≡ flat_map bytes_of (drop k ws)
  rest_bytes = ap (drop (4 * k)) split ∙ drop_at (flat_map bytes_of (take k ws)) (flat_map bytes_of (drop k ws)) (4 * k) front_length

-- A word written.
pub word-written : (ws : List ℕ) (k v : ℕ) → k < length ws → spliced (flat_map bytes_of ws) (4 * k) (bytes_of v) ≡ flat_map bytes_of (take k ws ++ (v ∷ drop (k + 1) ws))
unfolding flat_map
word-written ws k v l =
    (λ j. first_bytes ws k (omega (arith, l)) j ++ (bytes_of v ++ behind j))
    ∙ sym (flat_map_append bytes_of (take k ws) (v ∷ drop (k + 1) ws))
  where
    behind : drop (4 * k + 4) (flat_map bytes_of ws) ≡ flat_map bytes_of (drop (k + 1) ws)
    behind = ap (λ (n : ℕ). drop n (flat_map bytes_of ws)) {x = 4 * k + 4} {y = 4 * (k + 1)} (omega arith) ∙ rest_bytes ws (k + 1) (omega (arith, l))

-- Three words taken out, and the last three left behind the end.
pub words_closed : (ws : List ℕ) (k : ℕ) → k + 3 ≤ length ws
    → spliced (flat_map bytes_of ws) (4 * k) (drop (4 * k + 12) (flat_map bytes_of ws))
    ≡ flat_map bytes_of ((take k ws ++ drop (k + 3) ws) ++ drop (length ws - 3) ws)
words_closed ws k l =
    (λ j. first_bytes ws k (omega (arith, l)) j ++ (moved j ++ left j))
    ∙ sym (flat_map_append bytes_of (take k ws ++ drop (k + 3) ws) (drop (length ws - 3) ws)
    ∙ ap (λ (x : List ℕ). x ++ flat_map bytes_of (drop (length ws - 3) ws)) (flat_map_append bytes_of (take k ws) (drop (k + 3) ws))
    ∙ append_assoc (flat_map bytes_of (take k ws)) (flat_map bytes_of (drop (k + 3) ws)) (flat_map bytes_of (drop (length ws - 3) ws)))
  where
    moved : drop (4 * k + 12) (flat_map bytes_of ws) ≡ flat_map bytes_of (drop (k + 3) ws)
    moved = ap (λ (n : ℕ). drop n (flat_map bytes_of ws)) {x = 4 * k + 12} {y = 4 * (k + 3)} (omega arith) ∙ rest_bytes ws (k + 3) l

    ends : 4 * k + length (drop (4 * k + 12) (flat_map bytes_of ws)) ≡ 4 * (length ws - 3)
    ends = omega (arith, l, length-drop (4 * k + 12) (flat_map bytes_of ws), length_of_bytes ws)

    left : drop (4 * k + length (drop (4 * k + 12) (flat_map bytes_of ws))) (flat_map bytes_of ws) ≡ flat_map bytes_of (drop (length ws - 3) ws)
    left = ap (λ (n : ℕ). drop n (flat_map bytes_of ws)) ends ∙ rest_bytes ws (length ws - 3) (omega arith)

-- What the two edits leave of a table's bytes

module _ (t : List ℕ) (bytes : (i : ℕ) → get_or t i 0 < 256) (whole : length t % 4 ≡ 0) where
  back : flat_map bytes_of (words_of t) ≡ t
  back = bytes_back t bytes whole

  all_words : 4 * length (words_of t) ≡ length t
  all_words = sym (length_of_bytes (words_of t)) ∙ ap length back

  -- A changed table of the same length takes the whole list.
  pub metric-written : (k m first : ℕ) (new : List ℕ) (end : ℕ) → 4 * k + 4 ≤ length t → first ≡ word (words_of t) k
      → Appended t (4 * k) (bytes_of (with_metric_bits m first)) new end → new ≡ overwritten (flat_map bytes_of (changed_words (some m) k (words_of t))) t
  metric-written k m first new end room e A =
      A.words_are
      ∙ (λ j. spliced (sym back j) (4 * k) (bytes_of (with_metric_bits m (e j))))
      ∙ word-written (words_of t) k (with_metric_bits m (word (words_of t) k)) within
      ∙ sym (ap (λ (x : List ℕ). flat_map bytes_of (changed_words (some m) k (words_of t)) ++ x) nothing_left ∙ append-nil (flat_map bytes_of (changed_words (some m) k (words_of t))))
    where
      within : k < length (words_of t)
      within = omega (arith, all_words, room)

      same_length : length (flat_map bytes_of (changed_words (some m) k (words_of t))) ≡ length t
      same_length = omega (
        arith,
        all_words,
        within,
        length_of_bytes (changed_words (some m) k (words_of t)),
        length-append (take k (words_of t)) (with_metric_bits m (word (words_of t) k) ∷ drop (k + 1) (words_of t)),
        length-take-le k (words_of t) (omega (arith, within)),
        length-drop (k + 1) (words_of t),
      )

      nothing_left : drop (length (flat_map bytes_of (changed_words (some m) k (words_of t)))) t ≡ []
      nothing_left = ap (λ (n : ℕ). drop n t) same_length ∙ drop-length t

-- The last word lowered.
lower-at : (b : List ℕ) (j : ℕ) → length b ≡ suc j → with_lower_count b ≡ take j b ++ ((get_or b j 0 - 3) ∷ [])
unfolding with_lower_count
lower-at [] j e = absurd (omega (arith, e))
lower-at (w ∷ []) zero e = refl
lower-at (w ∷ []) (suc j) e = absurd (omega (arith, e))
lower-at (w ∷ v ∷ b) zero e = absurd (omega (arith, e))
lower-at (w ∷ v ∷ b) (suc j) e = ap (λ (x : List ℕ). w ∷ x) (lower-at (v ∷ b) j (omega (arith, e)))

lower-behind : (a b : List ℕ) → 1 ≤ length b → with_lower_count (a ++ b) ≡ a ++ with_lower_count b
unfolding with_lower_count
lower-behind [] b l = refl
lower-behind (w ∷ []) [] l = absurd (omega (arith, l))
lower-behind (w ∷ []) (v ∷ b) l = refl
lower-behind (w ∷ v ∷ a) b l = ap (λ (x : List ℕ). w ∷ x) (lower-behind (v ∷ a) b l)

-- The words `ws` without those from `k` on, of which `j` stand before the last.
module _ (ws : List ℕ) (k j : ℕ) (room : k + 4 ≤ length ws) (before_last : length ws ≡ j + 4) where
  abbrev left : List ℕ
  left = take k ws ++ drop (k + 3) ws

  left-length : length left ≡ suc j
  left-length = omega (arith, room, before_last, length-append (take k ws) (drop (k + 3) ws), length-take-le k ws (omega (arith, room)), length-drop (k + 3) ws)

  -- The end record is the last of them.
  pub last-left : get_or left j 0 ≡ get_or ws (j + 3) 0
  last-left =
      ap (λ (n : ℕ). get_or left n 0) {x = j} {y = length (take k ws) + (j - k)} (omega (arith, room, before_last, length-take-le k ws (omega (arith, room))))
      ∙ get_or-append-add (take k ws) (drop (k + 3) ws) (j - k) 0
      ∙ get_or-drop (k + 3) ws (j - k) 0
      ∙ ap (λ (n : ℕ). get_or ws n 0) {x = k + 3 + (j - k)} {y = j + 3} (omega (arith, room, before_last))

  lowered : take k ws ++ with_lower_count (drop (k + 3) ws) ≡ take j left ++ ((get_or left j 0 - 3) ∷ [])
  lowered = sym (lower-behind (take k ws) (drop (k + 3) ws) (omega (arith, room, length-drop (k + 3) ws))) ∙ lower-at left j left-length

  -- With the last three words behind them: those before the last, and what follows it.
  pub all_left : List ℕ
  all_left = left ++ drop (length ws - 3) ws

  pub last_of_all : get_or all_left j 0 ≡ get_or ws (j + 3) 0
  unfolding all_left
  last_of_all = get_or-append left (drop (length ws - 3) ws) 0 j (omega (arith, left-length)) ∙ last-left

  pub all-length : length all_left ≡ length ws
  unfolding all_left
  all-length = omega (arith, before_last, left-length, length-append left (drop (length ws - 3) ws), length-drop (length ws - 3) ws)

  pub lowered-words : take j all_left ++ ((get_or all_left j 0 - 3) ∷ drop (j + 1) all_left) ≡ changed_words none k ws ++ drop (length ws - 3) ws
  unfolding all_left
  lowered-words =
      (λ i. front i ++ ((last-same i - 3) ∷ behind i))
      ∙ sym (ap (λ (x : List ℕ). x ++ drop (length ws - 3) ws) lowered ∙ append_assoc (take j left) ((get_or left j 0 - 3) ∷ []) (drop (length ws - 3) ws))
    where
      front : take j (left ++ drop (length ws - 3) ws) ≡ take j left
      front = take-append-le j left (drop (length ws - 3) ws) (omega (arith, left-length))

      last-same : get_or (left ++ drop (length ws - 3) ws) j 0 ≡ get_or left j 0
      last-same = get_or-append left (drop (length ws - 3) ws) 0 j (omega (arith, left-length))

      behind : drop (j + 1) (left ++ drop (length ws - 3) ws) ≡ drop (length ws - 3) ws
      behind = drop_at left (drop (length ws - 3) ws) (j + 1) (omega (arith, left-length))

module _ (t : List ℕ) (bytes : (i : ℕ) → get_or t i 0 < 256) (whole : length t % 4 ≡ 0) (k : ℕ) (room : 4 * k + 16 ≤ length t) where
  abbrev ws : List ℕ
  ws = words_of t

  words-room : k + 4 ≤ length ws
  words-room = omega (arith, all_words t bytes whole, room)

  abbrev j : ℕ
  j = length ws - 4

  counted : length ws ≡ j + 4
  counted = omega (arith, words-room)

  module _ (mid : List ℕ) (closed : mid ≡ spliced t (4 * k) (drop (4 * k + 12) t)) where
    mid_is : mid ≡ flat_map bytes_of (all_left ws k j words-room counted)
    unfolding all_left
    mid_is = closed ∙ ap (λ (x : List ℕ). spliced x (4 * k) (drop (4 * k + 12) x)) (sym (back t bytes whole)) ∙ words_closed ws k (omega (arith, words-room))

    mid_words : words_of mid ≡ all_left ws k j words-room counted
    mid_words = ap words_of mid_is ∙ words_of_bytes (all_left ws k j words-room counted)

    pub mid_length : length mid ≡ length t
    mid_length = ap length mid_is ∙ omega (arith, length_of_bytes (all_left ws k j words-room counted), all-length ws k j words-room counted, all_words t bytes whole)

    pub last-place : length mid / 4 - 4 ≡ j
    last-place = omega (arith, mid_length, all_words t bytes whole)

    -- The end record has moved to its new place.
    pub end-there : (last : ℕ) → last ≡ j → word (words_of mid) last ≡ word ws (length t / 4 - 1)
    end-there last e =
        ap (λ (n : ℕ). word (words_of mid) n) e ∙ ap (λ (x : List ℕ). get_or x j 0) mid_words ∙ last_of_all ws k j words-room counted
        ∙ ap (λ (n : ℕ). get_or ws n 0) {x = j + 3} {y = length t / 4 - 1} (omega (arith, words-room, all_words t bytes whole))

    pub words_withdrawn : (last w : ℕ) (new : List ℕ) (end : ℕ) → last ≡ j → w ≡ word (words_of mid) last
        → Appended mid (4 * last) (bytes_of (w - 3)) new end → new ≡ overwritten (flat_map bytes_of (changed_words none k ws)) t
    words_withdrawn last w new end e f A =
        A.words_are
        ∙ (λ i. spliced (mid_is i) (4 * e i) (bytes_of ((f ∙ (λ i. get_or (mid_words i) (e i) 0)) i - 3)))
        ∙ word-written (all_left ws k j words-room counted) j (get_or (all_left ws k j words-room counted) j 0 - 3) (omega (arith, all-length ws k j words-room counted, words-room))
        ∙ ap (flat_map bytes_of) (lowered-words ws k j words-room counted)
        ∙ flat_map_append bytes_of (changed_words none k ws) (drop (length ws - 3) ws)
        ∙ ap (λ (x : List ℕ). flat_map bytes_of (changed_words none k ws) ++ x) (sym behind)
      where
        behind : drop (length (flat_map bytes_of (changed_words none k ws))) t ≡ flat_map bytes_of (drop (length ws - 3) ws)
        behind =
            ap (λ (n : ℕ). drop n t) {x = length (flat_map bytes_of (changed_words none k ws))} {y = 4 * (length ws - 3)} (omega (arith, length_of_bytes (changed_words none k ws), new-length))
            ∙ ap (drop (4 * (length ws - 3))) (sym (back t bytes whole)) ∙ rest_bytes ws (length ws - 3) (omega arith)
          where
            new-length : length (changed_words none k ws) ≡ length ws - 3
            new-length = omega (
              arith,
              words-room,
              ap length (lowered-words ws k j words-room counted),
              length-append (changed_words none k ws) (drop (length ws - 3) ws),
              length-append (take j (all_left ws k j words-room counted)) ((get_or (all_left ws k j words-room counted) j 0 - 3) ∷ drop (j + 1) (all_left ws k j words-room counted)),
              length-take-le j (all_left ws k j words-room counted) (omega (arith, all-length ws k j words-room counted)),
              length-drop (j + 1) (all_left ws k j words-room counted),
              all-length ws k j words-room counted,
              length-drop (length ws - 3) ws,
            )

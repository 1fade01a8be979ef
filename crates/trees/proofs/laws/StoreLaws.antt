-- Laws of the trees kept in a store: none at first, and one more on its line. Assumes nothing.
use Rattle.std.specs.Prelude.{ℕ, ◌+◌, ◌*◌, ◌-◌, ◌/◌, ◌≤◌, ◌<◌, ◌≡◌, List, ◌++◌, ◌⊎◌, length, get_or, set, take, drop}
use Rattle.std.proofs.Common.{arith, mod-lt, sym, ap, ◌∙◌, subst, inl, inr, length-set, get_or-set_same, get_or-set_other, get_or-drop, drop-set-lt}
use Rattle.std.proofs.lemmas.List.{drop-set-add, take-set-le}
use Rattle.lists.specs.Lists.{spliced}
use Rattle.lists.proofs.laws.NumberLaws.{compared, same_or_not}
use Rattle.lists.proofs.laws.Splices.{length-spliced, put_back, spliced_part, before-spliced, after-spliced, place-before}
use Rattle.network.specs.Layout.{bridges_in}
use Rattle.network.specs.Networks.{TreeIn}
use Rattle.trees.specs.Store.{line_words, lines_of, slot_of, line_of, mark_of, labels_of, TreesKept}

pub slot_tells : (index root index' root' : ℕ) → 1 ≤ index → 1 ≤ index' → root < 64 → root' < 64
    → slot_of index root ≡ slot_of index' root' → (index ≡ index') × (root ≡ root')
slot_tells index root index' root' h k l m e = (omega arith, omega arith)

-- A store of zeros holds no tree.
pub no_trees : (net store : List ℕ) → line_words ≤ length store → ((i : ℕ) → i < length store → get_or store i 0 ≡ 0) → TreesKept net store
no_trees net store l z = record {
  has_line = l;
  kept = λ index root h k i e.
      let below : line_of (lines_of store) index root < lines_of store = mod-lt (slot_of index root) (omega arith)
      in absurd (omega (arith, z (line_words * line_of (lines_of store) index root) (omega arith)));
}

-- What is written before a part, and after it, leaves it.
set_before : (xs : List ℕ) (i n place x : ℕ) → place < i → take n (drop i (set xs place x)) ≡ take n (drop i xs)
set_before xs i n place x l = ap (λ (t : List ℕ). take n t) (drop-set-lt i xs place x l)

set_after : (xs : List ℕ) (i n place x : ℕ) → i + n ≤ place → take n (drop i (set xs place x)) ≡ take n (drop i xs)
set_after xs i n place x l =
    let e : place ≡ i + (place - i) = omega arith
    in ap (λ (k : ℕ). take n (drop i (set xs k x))) e
    ∙ ap (λ (t : List ℕ). take n t) (drop-set-add i xs (place - i) x)
    ∙ take-set-le n (drop i xs) (place - i) x (omega arith)

-- A place behind a part that was written anew.
place_after : (xs part : List ℕ) (at i : ℕ) → at + length part ≤ i → at ≤ length xs → get_or (spliced xs at part) i 0 ≡ get_or xs i 0
place_after xs part at i h l =
    let e : i ≡ i + 0 = omega arith
    in ap (λ (k : ℕ). get_or (spliced xs at part) k 0) e
    ∙ sym (get_or-drop i (spliced xs at part) 0 0)
    ∙ ap (λ (t : List ℕ). get_or t 0 0) (after-spliced xs at part i h l)
    ∙ get_or-drop i xs 0 0
    ∙ ap (λ (k : ℕ). get_or xs k 0) (sym e)

module _ {net store : List ℕ} (H : TreesKept net store) (index root : ℕ) (l : 1 ≤ index) (g : index ≤ 16) (inside : root < bridges_in net) where
  -- The mark of its line says that the tree is there.
  pub tree-there : (line : ℕ) → line ≡ line_of (lines_of store) index root → mark_of store line ≡ slot_of index root + 1
      → TreeIn net index root (labels_of store line)
  tree-there line e m = subst (λ (x : ℕ). TreeIn net index root (labels_of store x)) (sym e)
      (H.kept index root l g inside (ap (mark_of store) (sym e) ∙ m))

  -- One tree more.
  module _ (most : bridges_in net ≤ 64) (line : ℕ) (below : line < lines_of store) (made : List ℕ) (size : length made ≡ 320)
      (T : TreeIn net index root made) where
    abbrev place : ℕ
    place = line_words * line + 1

    abbrev number : ℕ
    number = slot_of index root + 1

    -- The words from `place` to `place + 320` were lent, and the mark set after that.
    abbrev lent : List ℕ
    lent = take place store ++ (made ++ drop (place + 320 - place) (drop place store))

    abbrev after : List ℕ
    after = set lent (line_words * line) number

    room : line_words * line + line_words ≤ length store
    room = omega arith

    lent_is : lent ≡ spliced store place made
    lent_is = put_back store made place (place + 320 - place) (omega arith)

    lent_length : length lent ≡ length store
    lent_length = ap length lent_is ∙ length-spliced store place made (omega (arith, room))

    pub store_length : length after ≡ length store
    store_length = length-set lent (line_words * line) number ∙ lent_length

    labels-inside : place + 320 ≤ length after
    labels-inside = omega (arith, store_length, room)

    same_lines : lines_of after ≡ lines_of store
    same_lines = ap (λ (n : ℕ). n / line_words) store_length

    new_mark : mark_of after line ≡ number
    new_mark = get_or-set_same lent (line_words * line) number 0 (omega (arith, lent_length, room))

    new-labels : labels_of after line ≡ made
    new-labels =
        set_before lent place 320 (line_words * line) number (omega arith)
        ∙ ap (λ (t : List ℕ). take 320 (drop place t)) lent_is
        ∙ ap (λ (n : ℕ). take n (drop place (spliced store place made))) {x = 320} {y = length made} (omega arith)
        ∙ spliced_part store place made (omega (arith, room))

    module _ (line' : ℕ) (below' : line' < lines_of store) where
      other_mark : (line' ≡ line → ⊥) → mark_of after line' ≡ mark_of store line'
      other_mark d =
          get_or-set_other lent (line_words * line) (line_words * line') number 0 (λ e. d (omega arith))
          ∙ ap (λ (t : List ℕ). get_or t (line_words * line') 0) lent_is
          ∙ go (compared line' line)
        where
          go : (line' < line) ⊎ (line' ≡ line) ⊎ (line < line') → get_or (spliced store place made) (line_words * line') 0 ≡ mark_of store line'
          go (inl q) = place-before store place made (line_words * line') 0 (omega arith) (omega (arith, room))
          go (inr (inl q)) = absurd (d q)
          go (inr (inr q)) = place_after store made place (line_words * line') (omega arith) (omega (arith, room))

      other-labels : (line' ≡ line → ⊥) → labels_of after line' ≡ labels_of store line'
      other-labels d = go (compared line' line)
        where
          go : (line' < line) ⊎ (line' ≡ line) ⊎ (line < line') → labels_of after line' ≡ labels_of store line'
          go (inl q) =
              set_after lent (line_words * line' + 1) 320 (line_words * line) number (omega arith)
              ∙ ap (λ (t : List ℕ). labels_of t line') lent_is
              ∙ before-spliced store place made (line_words * line' + 1) 320 (omega arith) (omega (arith, room))
          go (inr (inl q)) = absurd (d q)
          go (inr (inr q)) =
              set_before lent (line_words * line' + 1) 320 (line_words * line) number (omega arith)
              ∙ ap (λ (t : List ℕ). labels_of t line') lent_is
              ∙ ap (λ (t : List ℕ). take 320 t) (after-spliced store place made (line_words * line' + 1) (omega arith) (omega (arith, room)))

    new-tree : TreeIn net index root (labels_of after line)
    new-tree = subst (λ (t : List ℕ). TreeIn net index root t) (sym new-labels) T

    tree-kept : TreesKept net after
    tree-kept = record {
      has_line = omega (arith, store_length, H.has_line);
      kept = λ index' root' a b c m.
          subst (λ (x : ℕ). TreeIn net index' root' (labels_of after (line_of x index' root'))) (sym same_lines)
          (held index' root' a b c (ap (λ (x : ℕ). mark_of after (line_of x index' root')) (sym same_lines) ∙ m)
          (same_or_not (line_of (lines_of store) index' root') line));
    }
      where
        held : (index' root' : ℕ) → 1 ≤ index' → index' ≤ 16 → root' < bridges_in net → mark_of after (line_of (lines_of store) index' root') ≡ slot_of index' root' + 1
            → (line_of (lines_of store) index' root' ≡ line) ⊎ (line_of (lines_of store) index' root' ≡ line → ⊥)
            → TreeIn net index' root' (labels_of after (line_of (lines_of store) index' root'))
        held index' root' a b c m (inl q) =
            let s = sym new_mark ∙ ap (mark_of after) (sym q) ∙ m
            in let t = slot_tells index' root' index root a l (omega arith) (omega arith) (omega arith)
            in rw (q, t.0, t.1) new-tree
        held index' root' a b c m (inr d) =
            let below' : line_of (lines_of store) index' root' < lines_of store = mod-lt (slot_of index' root') (omega (arith, below))
            in subst (λ (t : List ℕ). TreeIn net index' root' t) (sym (other-labels (line_of (lines_of store) index' root') below' d))
            (H.kept index' root' a b c (sym (other_mark (line_of (lines_of store) index' root') below' d) ∙ m))

    -- All that is said of a tree that was made: the store keeps its trees, and this one is there.
    pub tree_added : TreesKept net after × ((place + 320 ≤ length after) × TreeIn net index root (labels_of after line))
    tree_added = (tree-kept, (labels-inside, new-tree))

-- The labels as a reader is lent them, from `place` to `place + 320`.
pub lent-tree : {net : List ℕ} {index root : ℕ} (store : List ℕ) (place : ℕ)
    → TreeIn net index root (take 320 (drop place store)) → TreeIn net index root (take (place + 320 - place) (drop place store))
lent-tree {net} {index} {root} store place T =
    let e : 320 ≡ place + 320 - place = omega arith
    in subst (λ (k : ℕ). TreeIn net index root (take k (drop place store))) e T

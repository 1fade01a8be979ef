-- Having nothing twice, the last of a list, its parts and its neighbours: what the laws of lists and paths speak of. Assumes nothing.
use Rattle.std.specs.Prelude.{◌≡◌, List, [], ◌∷◌, ◌++◌}
use Rattle.lists.specs.Members.{In}

module _ {A : Type 0} where
  -- Nothing is in the list twice.
  abbrev pub Distinct : List A → Type 0
  Distinct [] = Unit {0}
  Distinct (x ∷ xs) = (In x xs → ⊥) × Distinct xs

  -- The last of `u` and the list after it.
  abbrev pub last_of : A → List A → A
  last_of u [] = u
  last_of u (v ∷ t) = last_of v t

  -- The list has a part that begins with `a` and ends with `b`.
  abbrev pub HasPart : A → A → List A → Type 0
  HasPart a b p = (xs : List A) × (t : List A) × (ys : List A) × (p ≡ xs ++ ((a ∷ t) ++ ys)) × (last_of a t ≡ b)

module _ {A B : Type 0} where
  -- What `f` gives for each two neighbours of a list, in order: with `f` the link of a hop, the links that a path crosses.
  abbrev pub along : (A → A → B) → List A → List B
  along f [] = []
  along f (x ∷ []) = []
  along f (x ∷ y ∷ t) = f x y ∷ along f (y ∷ t)

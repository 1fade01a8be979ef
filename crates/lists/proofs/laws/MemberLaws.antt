-- Constructors of lists and options told apart, the last of a list, what is in a list, what is in a list that `map` or `flat_map` gives, and the
-- neighbours of a list. Assumes nothing.
use Rattle.std.specs.Prelude.{ℕ, zero, suc, ◌<◌, ◌≡◌, ◌⊎◌, length, get_or, drop}
use Rattle.std.proofs.Common.{arith, sym, ap, ◌∙◌, subst, drop-cons}
use Rattle.std.proofs.Math.Path.{refl}
use mathlib.Core.List.{List, [], ◌∷◌, ◌++◌, map, flat_map, reverse, append_assoc, reverse-cons, map-append}
use Rattle.std.proofs.Math.Option.{none, some}
use Rattle.std.proofs.Math.Logic.{inl, inr}
use Rattle.lists.specs.Members.{In}
use Rattle.lists.proofs.laws.ListNotions.{last_of, HasPart, along}

-- Constructors

module _ {A : Type 0} where
  pub nil_not_cons : {x : A} {xs : List A} → [] ≡ x ∷ xs → ⊥
  nil_not_cons {x} {xs} e = let z : ◌≡◌ {A = ℕ} 0 1 = cc in omega arith

  pub none-not-some : {x : A} → none ≡ some x → ⊥
  none-not-some {x} e = let z : ◌≡◌ {A = ℕ} 0 1 = cc in omega arith

  pub append_empty : (xs ys : List A) → xs ++ ys ≡ [] → (xs ≡ []) × (ys ≡ [])
  append_empty [] ys e = (refl, e)
  append_empty (x ∷ xs) ys e = absurd (nil_not_cons (sym e))

  -- From one place on: what stands there, and the list from the next place on.
  pub drop-next : (xs : List A) (i j : ℕ) (d : A) → j ≡ suc i → i < length xs → drop i xs ≡ get_or xs i d ∷ drop j xs
  drop-next xs i j d e h = drop-cons xs i d h ∙ ap (λ (k : ℕ). get_or xs i d ∷ drop k xs) (sym e)

  -- The last of a list

  pub last_of_append : (u : A) (t : List A) (v : A) (s : List A) → last_of u (t ++ (v ∷ s)) ≡ last_of v s
  last_of_append u [] v s = refl
  last_of_append u (x ∷ t) v s = last_of_append x t v s

  -- Membership

  pub in_left : (a : A) (xs ys : List A) → In a xs → In a (xs ++ ys)
  in_left a [] ys h = elim h [ ]
  in_left a (x ∷ xs) ys (inl e) = inl e
  in_left a (x ∷ xs) ys (inr h) = inr (in_left a xs ys h)

  pub in_right : (a : A) (xs ys : List A) → In a ys → In a (xs ++ ys)
  in_right a [] ys h = h
  in_right a (x ∷ xs) ys h = inr (in_right a xs ys h)

  pub in_append : (a : A) (xs ys : List A) → In a (xs ++ ys) → In a xs ⊎ In a ys
  in_append a [] ys h = inr h
  in_append a (x ∷ xs) ys (inl e) = inl (inl e)
  in_append a (x ∷ xs) ys (inr h) = go (in_append a xs ys h)
    where
      go : In a xs ⊎ In a ys → In a (x ∷ xs) ⊎ In a ys
      go (inl h) = inl (inr h)
      go (inr h) = inr h

  -- What is in a list has a part before it and a part after it.
  pub in_split : (a : A) (xs : List A) → In a xs → (ys : List A) × (zs : List A) × (xs ≡ ys ++ (a ∷ zs))
  in_split a [] h = elim h [ ]
  in_split a (x ∷ xs) (inl e) = ([], xs, ap (λ (y : A). y ∷ xs) (sym e))
  in_split a (x ∷ xs) (inr h) = go (in_split a xs h)
    where
      go : ((ys : List A) × (zs : List A) × (xs ≡ ys ++ (a ∷ zs))) → (ys : List A) × (zs : List A) × (x ∷ xs ≡ ys ++ (a ∷ zs))
      go (ys, zs, e) = (x ∷ ys, zs, ap (λ (t : List A). x ∷ t) e)

  pub in-here : (a : A) (xs ys : List A) → In a (xs ++ (a ∷ ys))
  in-here a xs ys = in_right a xs (a ∷ ys) (inl refl)

  part_later : (a b x : A) (p : List A) → HasPart a b p → HasPart a b (x ∷ p)
  part_later a b x p (xs, t, ys, e, f) = (x ∷ xs, t, ys, ap (λ (s : List A). x ∷ s) e, f)

  part_here : (a b x : A) (p : List A) → a ≡ x → In b p → HasPart a b (x ∷ p)
  part_here a b x p e k = go (in_split b p k)
    where
      go : ((ys : List A) × (zs : List A) × (p ≡ ys ++ (b ∷ zs))) → HasPart a b (x ∷ p)
      go (ys, zs, f) = ([], ys ++ (b ∷ []), zs, cc (append_assoc ys (b ∷ []) zs), last_of_append a ys b [])

  -- Of two places of a list one is not after the other.
  pub two_in : (a b : A) (p : List A) → In a p → In b p → HasPart a b p ⊎ HasPart b a p
  two_in a b [] h _ = elim h [ ]
  two_in a b (x ∷ p) (inl e) (inl f) = inl ([], [], p, ap (λ (y : A). y ∷ p) (sym e), e ∙ sym f)
  two_in a b (x ∷ p) (inl e) (inr k) = inl (part_here a b x p e k)
  two_in a b (x ∷ p) (inr h) (inl f) = inr (part_here b a x p f h)
  two_in a b (x ∷ p) (inr h) (inr k) = go (two_in a b p h k)
    where
      go : HasPart a b p ⊎ HasPart b a p → HasPart a b (x ∷ p) ⊎ HasPart b a (x ∷ p)
      go (inl k) = inl (part_later a b x p k)
      go (inr k) = inr (part_later b a x p k)

module _ {A B : Type 0} where
  pub in_map : (f : A → B) (a : A) (xs : List A) → In a xs → In (f a) (map f xs)
  in_map f a [] h = elim h [ ]
  in_map f a (x ∷ xs) (inl e) = inl (ap f e)
  in_map f a (x ∷ xs) (inr h) = inr (in_map f a xs h)

  pub map-in : (f : A → B) (b : B) (xs : List A) → In b (map f xs) → (a : A) × In a xs × (b ≡ f a)
  map-in f b [] h = elim h [ ]
  map-in f b (x ∷ xs) (inl e) = (x, inl refl, e)
  map-in f b (x ∷ xs) (inr h) = go (map-in f b xs h)
    where
      go : ((a : A) × In a xs × (b ≡ f a)) → (a : A) × In a (x ∷ xs) × (b ≡ f a)
      go (a, k, e) = (a, inr k, e)

  pub map_at : (f : A → B) (xs : List A) (n : ℕ) (a : A) (b : B) → n < length xs → get_or (map f xs) n b ≡ f (get_or xs n a)
  map_at f [] n a b h = absurd (omega arith)
  map_at f (x ∷ xs) zero a b h = refl
  map_at f (x ∷ xs) (suc n) a b h = map_at f xs n a b (omega arith)

  pub in-flat_map : (f : A → List B) (b : B) (a : A) (xs : List A) → In a xs → In b (f a) → In b (flat_map f xs)
  unfolding flat_map
  in-flat_map f b a [] h k = elim h [ ]
  in-flat_map f b a (x ∷ xs) (inl e) k = in_left b (f x) (flat_map f xs) (subst (λ (y : A). In b (f y)) e k)
  in-flat_map f b a (x ∷ xs) (inr h) k = in_right b (f x) (flat_map f xs) (in-flat_map f b a xs h k)

  pub flat_map-in : (f : A → List B) (b : B) (xs : List A) → In b (flat_map f xs) → (a : A) × In a xs × In b (f a)
  unfolding flat_map
  flat_map-in f b [] h = elim h [ ]
  flat_map-in f b (x ∷ xs) h = go (in_append b (f x) (flat_map f xs) h) (flat_map-in f b xs)
    where
      go : In b (f x) ⊎ In b (flat_map f xs) → (In b (flat_map f xs) → (a : A) × In a xs × In b (f a))
          → (a : A) × In a (x ∷ xs) × In b (f a)
      go (inl k) ih = (x, inl refl, k)
      go (inr k) ih = let r = ih k in (r.0, inr r.1, r.2)

  pub map-reverse : (f : A → B) (xs : List A) → map f (reverse xs) ≡ reverse (map f xs)
  map-reverse f [] = refl
  map-reverse f (x ∷ xs) =
      ap (λ (t : List A). map f t) (reverse-cons x xs) ∙ map-append f (reverse xs) (x ∷ [])
      ∙ ap (λ (t : List B). t ++ (f x ∷ [])) (map-reverse f xs) ∙ sym (reverse-cons (f x) (map f xs))

-- Neighbours of a list

module _ {A B : Type 0} (f : A → A → B) where
  along-end : (xs : List A) (y z : A) → along f (xs ++ (y ∷ z ∷ [])) ≡ along f (xs ++ (y ∷ [])) ++ (f y z ∷ [])
  along-end [] y z = refl
  along-end (x ∷ []) y z = refl
  along-end (x ∷ w ∷ xs) y z = ap (λ (t : List B). f x w ∷ t) (along-end (w ∷ xs) y z)

  -- What `g` turns round comes turned, in reverse order, along the reversed list.
  pub along-reverse : (g : B → B) → ((x y : A) → f y x ≡ g (f x y)) → (p : List A) → along f (reverse p) ≡ reverse (map g (along f p))
  along-reverse g turns [] = refl
  along-reverse g turns (x ∷ []) = refl
  along-reverse g turns (x ∷ y ∷ t) =
      ap (along f) (reverse-cons x (y ∷ t) ∙ ap (λ (s : List A). s ++ (x ∷ [])) (reverse-cons y t) ∙ append_assoc (reverse t) (y ∷ []) (x ∷ []))
      ∙ along-end (reverse t) y x
      ∙ ap (λ (s : List B). s ++ (f y x ∷ [])) (ap (along f) (sym (reverse-cons y t)) ∙ along-reverse g turns (y ∷ t))
      ∙ ap (λ (b : B). reverse (map g (along f (y ∷ t))) ++ (b ∷ [])) (turns x y)
      ∙ sym (reverse-cons (g (f x y)) (map g (along f (y ∷ t))))

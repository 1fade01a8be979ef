-- Laws of a listing given part by part: at first the whole listing is left; a part given leaves the others; and the parts given until none is
-- left are the listing (`listing-given`). Assumes nothing.
use Prim.Native.Nat.{ℕ, suc, ◌+◌, ◌≤◌, ◌<◌}
use Rattle.std.proofs.Common.{arith, subst, ◌∙◌, drop_of_length-le, drop-cons}
use Rattle.std.proofs.Math.Nat.{zero-add}
use Rattle.std.specs.Prelude.{◌≡◌, refl, Option, Some, Result, Ok, Err, take, drop}
use Rattle.std.proofs.Math.Path.{sym, ap}
use mathlib.Core.List.{List, [], ◌∷◌, ◌++◌, flat_map, append-nil}
use Rattle.std.proofs.Math.ListN.{length, get_or, length-map}
use Rattle.lists.specs.Lists.{rising}
use Rattle.lists.specs.Appending.{Appended}
use Rattle.lists.proofs.laws.MemberLaws.{map_at}
use Rattle.lists.proofs.laws.SelectedLaws.{length-rising, rising-at}
use Rattle.lists.proofs.laws.GivenLaws.{flat_map-map}
use Rattle.rule.specs.declared.answer.Counts.{Counts}
use Rattle.rule.specs.declared.refusal.Refusal.{Refusal}
use Rattle.rule.specs.Words.{words_of}
use Rattle.rule.specs.Outcome.{Outcome, answered, refused}
use Rattle.rule.specs.Refusals.{refused_by}
use Rattle.rule.specs.Plan.{Plan}
use Rattle.rule.specs.Check.{verdict}
use Rattle.rule.specs.Calls.{counts_of}
use Rattle.table.specs.declared.shape.Shape.{Shape}
use Rattle.table.specs.Positions.{plan_at}
use Rattle.verdict.specs.Examination.{examined_values}
use Rattle.network.specs.Networks.{TableNetwork}
use Rattle.trees.specs.Store.{TreesKept}
use Rattle.lists.proofs.laws.AppendingLaws.{front_is}
use Rattle.text.specs.Text.{line}
use Rattle.check_text.specs.CheckText.{refused_word}
use Rattle.listing_lines.specs.Listing.{verdict_listing, listing}
use Rattle.listing_progress.specs.declared.progress.Progress.{Progress}
use Rattle.listing_progress.specs.declared.progress.Part.{Part}
use Rattle.listing_parts.specs.Parts.{part_count, listing_part}
use Rattle.listing_progress.specs.Remaining.{parts_of, together, parts_left, remaining, one_more, Gives, NextOf, GivenParts, PartsReady, Underway, GoesOn}
use Rattle.listing_parts.proofs.laws.PartLaws.{listing-parts}

-- The parts by the verdict, one after the other, are the listing by the verdict.
parts-listed : (o : Outcome Plan) → together (parts_of o) ≡ verdict_listing o
unfolding parts_of flat_map
parts-listed (answered p) = flat_map-map (λ part. part) (listing_part p) (rising 0 (part_count p)) ∙ listing-parts p
parts-listed (refused number kind at) = append-nil (line refused_word (number ∷ at ∷ []))

module _ (t : List ℕ) where
  -- Before the first part the whole listing is left.
  pub whole-left : (b : Progress) → b.given ≡ 0 → remaining t b ≡ listing t
  unfolding remaining listing
  whole-left b e = ap (λ (n : ℕ). together (drop n (parts_of (verdict t)))) e ∙ parts-listed (verdict t)

  -- The parts given until none is left are what was left, and from the beginning the listing.
  pub parts-given : (b : Progress) (parts : List (List ℕ)) → GivenParts t b parts → together parts ≡ remaining t b
  unfolding flat_map
  parts-given b [] g = sym g
  parts-given b (part ∷ parts) (after, g, h) = ap (λ (rest : List ℕ). part ++ rest) (parts-given after parts h) ∙ g

  pub listing-given : (b : Progress) (parts : List (List ℕ)) → remaining t b ≡ listing t → GivenParts t b parts → together parts ≡ listing t
  listing-given b parts e g = parts-given b parts g ∙ e

abbrev begun : Result Shape Refusal → Counts → Progress
begun r c = record { examined = r; counts = c; given = 0 }

-- A listing that was begun: the verdict is that on the table, and nothing was given.
module _ (t : List ℕ) (r : Result Shape Refusal) (e : examined_values (words_of t) r ≡ verdict t) {net store : List ℕ} where
  pub begun-accepted : (s : Shape) → r ≡ Ok s → TableNetwork t s net
      → TreesKept net store → (c : Counts) → c ≡ counts_of (plan_at (words_of t) s)
      → (remaining t (begun r c) ≡ listing t)
      × Underway t (begun r c) net store
  begun-accepted s f P T c g = (whole-left t (begun r c) refl, record { of_table = e; accepted = ready })
    where
      ready : (s' : Shape) → r ≡ Ok s' → PartsReady t (begun r c) s' net store
      ready s' h =
          let same : ◌≡◌ {A = Result Shape Refusal} (Ok s) (Ok s') = sym f ∙ h
          in let z : s ≡ s' = cc
          in subst (λ (x : Shape). PartsReady t (begun r c) x net store) z
          (record { table_network = P; trees_kept = T; counted = g })

  pub begun_refused : (refusal : Refusal) → r ≡ Err refusal → (c : Counts)
      → (remaining t (begun r c) ≡ listing t)
      × Underway t (begun r c) net store
  begun_refused refusal f c = (whole-left t (begun r c) refl, record { of_table = e; accepted = ready })
    where
      ready : (s : Shape) → r ≡ Ok s → PartsReady t (begun r c) s net store
      ready s h =
          let other : ◌≡◌ {A = Result Shape Refusal} (Err refusal) (Ok s) = sym f ∙ h
          in let z : ◌≡◌ {A = ℕ} 0 1 = cc
          in absurd (omega arith)

module _ (t : List ℕ) (b : Progress) where
  -- Where every part was given nothing is left.
  nothing_left : length (parts_of (verdict t)) ≤ b.given → remaining t b ≡ []
  unfolding remaining flat_map
  nothing_left l = ap together (drop_of_length-le (parts_of (verdict t)) l)

  -- The part of the next number leaves the others.
  module _ (after : Progress) (e : after.given ≡ b.given + 1) (inside : b.given < length (parts_of (verdict t))) where
    gives_next : {part : List ℕ} → part ≡ get_or (parts_of (verdict t)) b.given [] → Gives t b part after
    unfolding remaining flat_map
    gives_next {part} f =
        (λ i. f i ++ together (drop (number i) (parts_of (verdict t))))
        ∙ ap together (sym (drop-cons (parts_of (verdict t)) b.given [] inside))
      where
        number : after.given ≡ suc b.given
        number = omega (arith, e)

    fewer-left : parts_left t after < parts_left t b
    fewer-left = omega (arith, e, inside)

  module _ (e : examined_values (words_of t) b.examined ≡ verdict t) where
    module _ (s : Shape) (f : b.examined ≡ Ok s) where
      abbrev plan : Plan
      plan = plan_at (words_of t) s

      accepted : verdict t ≡ answered plan
      accepted = sym e ∙ ap (examined_values (words_of t)) f

      many : length (parts_of (verdict t)) ≡ part_count plan
      unfolding parts_of
      many = ap (λ (o : Outcome Plan). length (parts_of o)) accepted ∙ length-map (rising 0 (part_count plan)) (listing_part plan) ∙ length-rising 0 (part_count plan)

      part_is : b.given < part_count plan → listing_part plan b.given ≡ get_or (parts_of (verdict t)) b.given []
      unfolding parts_of
      part_is l =
          sym (ap (λ (o : Outcome Plan). get_or (parts_of o) b.given []) accepted
          ∙ map_at (listing_part plan) (rising 0 (part_count plan)) b.given 0 [] (omega (arith, length-rising 0 (part_count plan)))
          ∙ ap (listing_part plan) (rising-at 0 (part_count plan) b.given 0 l ∙ zero-add b.given))

      -- A part of an accepted table written to the front of the lent bytes.
      pub accepted_part : b.given < part_count plan → {out out' : List ℕ} {written : ℕ} → Appended out 0 (listing_part plan b.given) out' written
          → (after : Progress) → after.given ≡ b.given + 1 → Gives t b (take written out') after × (parts_left t after < parts_left t b)
      accepted_part l A after g = (
        gives_next after g (omega (arith, many)) (front_is A ∙ part_is l),
        fewer-left after g (omega (arith, many)),
      )

      pub accepted-ended : part_count plan ≤ b.given → remaining t b ≡ []
      accepted-ended l = nothing_left (omega (arith, many))

    module _ (refusal : Refusal) (f : b.examined ≡ Err refusal) where
      refused-table : verdict t ≡ refused_by refusal
      refused-table = sym e ∙ ap (examined_values (words_of t)) f

      one_part : length (parts_of (verdict t)) ≡ 1
      unfolding parts_of
      one_part = ap (λ (o : Outcome Plan). length (parts_of o)) refused-table

      line_is : b.given ≡ 0 → line refused_word (refusal.number ∷ refusal.word ∷ []) ≡ get_or (parts_of (verdict t)) b.given []
      unfolding parts_of
      line_is l = sym (ap (λ (o : Outcome Plan). get_or (parts_of o) b.given []) refused-table ∙ ap (λ (n : ℕ). get_or (line refused_word (refusal.number ∷ refusal.word ∷ []) ∷ []) n []) l)

      -- The line of a refused table.
      pub refused_part : b.given ≡ 0 → {out out' : List ℕ} {written : ℕ} → Appended out 0 (line refused_word (refusal.number ∷ refusal.word ∷ [])) out' written
          → (after : Progress) → after.given ≡ b.given + 1 → Gives t b (take written out') after × (parts_left t after < parts_left t b)
      refused_part l A after g = (
        gives_next after g (omega (arith, one_part)) (front_is A ∙ line_is l),
        fewer-left after g (omega (arith, one_part)),
      )

      pub refused-ended : 1 ≤ b.given → remaining t b ≡ []
      refused-ended l = nothing_left (omega (arith, one_part))

-- The answer to "the next part?", and that the listing is underway after it.
abbrev Answered : List ℕ → Progress → List ℕ → List ℕ → List ℕ → Option Part → Type 0
Answered t b net store out r = NextOf t b out r × GoesOn t b net store r

module _ {t : List ℕ} {b : Progress} {net store : List ℕ} (U : Underway t b net store) where
  pub next-accepted : (s : Shape) → b.examined ≡ Ok s → b.given < part_count (plan_at (words_of t) s)
      → {out out' : List ℕ} {written : ℕ} → Appended out 0 (listing_part (plan_at (words_of t) s) b.given) out' written → written ≤ length out'
      → {store' : List ℕ} → TreesKept net store'
      → (part : Part) → part ≡ one_more b written
      → Answered t b net store' out' (Some part)
  next-accepted s f l {out} {out'} {written} A m {store'} T part e =
      let P = accepted_part t b U.of_table s f l A (one_more b written).after refl
      in subst (λ (q : Part). Answered t b net store' out' (Some q)) (sym e) ((m, P.0), (record { of_table = U.of_table; accepted = ready }, P.1))
    where
      ready : (s' : Shape) → b.examined ≡ Ok s' → PartsReady t (one_more b written).after s' net store'
      ready s' h = record { table_network = (U.accepted s' h).table_network; trees_kept = T; counted = (U.accepted s' h).counted }

  pub next-refused : (refusal : Refusal) → b.examined ≡ Err refusal → b.given ≡ 0
      → {out out' : List ℕ} {written : ℕ} → Appended out 0 (line refused_word (refusal.number ∷ refusal.word ∷ [])) out' written → written ≤ length out'
      → (part : Part) → part ≡ one_more b written
      → Answered t b net store out' (Some part)
  next-refused refusal f l {out} {out'} {written} A m part e =
      let P = refused_part t b U.of_table refusal f l A (one_more b written).after refl
      in subst (λ (q : Part). Answered t b net store out' (Some q)) (sym e) ((m, P.0), (record { of_table = U.of_table; accepted = ready }, P.1))
    where
      ready : (s' : Shape) → b.examined ≡ Ok s' → PartsReady t (one_more b written).after s' net store
      ready s' h = let other : ◌≡◌ {A = Result Shape Refusal} (Err refusal) (Ok s') = sym f ∙ h in let z : ◌≡◌ {A = ℕ} 0 1 = cc in absurd (omega arith)

-- What the answer says where it is a part.
module _ (t : List ℕ) (b : Progress) {r : Option Part} {part : Part} (e : r ≡ Some part) where
  pub part_fits : (out : List ℕ) → NextOf t b out r → part.written ≤ length out
  part_fits out N = (subst (NextOf t b out) e N).0

  pub part_goes_on : (net store : List ℕ) → GoesOn t b net store r
      → Underway t part.after net store × (parts_left t part.after < parts_left t b)
  part_goes_on net store G =
      subst (GoesOn t b net store) e G

-- How frames move (01, "Frames"): by the half-links of the table and the words that the entries call wrote, and nothing else.
-- `hs` are the half-links of the plan that the paths of the frame's VID are chosen in (`plan_of_vid`), `lists` gives the words of each
-- bridge. Assumes nothing.
use Rattle.std.specs.Prelude.{ℕ, zero, suc, cond, ◌&&◌, eqb}
use mathlib.Core.List.{List, [], ◌∷◌, ◌++◌, map, flat_map}
use Rattle.std.proofs.Math.Option.{Option, none, some}
use Rattle.lists.specs.Lists.{selected}
use Rattle.rule.specs.Records.{HalfLink}
use Rattle.rule.specs.Links.{Link, from, to, usable_links}
use Rattle.rule.specs.Entries.{list_of}
use Rattle.rule.specs.Lookup.{entries_in}

module _ {A : Type 0} where
  -- The one element of a list that has exactly one.
  abbrev pub only : List A → Option A
  only [] = none
  only (x ∷ []) = some x
  only (x ∷ y ∷ rest) = none

-- "Leaving a bridge by a port, a frame crosses the usable link whose half-link has that near bridge and port, and enters the far
-- bridge." "Without such a link the frame is lost."
unfoldable pub crossed : List HalfLink → ℕ → ℕ → Option Link
crossed hs u port = only (selected (λ l. eqb (from l) u && eqb l.here.port port) (usable_links hs))

-- The bridge that is entered is `to` of the link. "The arrival port is the near port of the link's other half-link."
abbrev pub arrival_port : Link → ℕ
arrival_port l = l.there.port

-- The ports of a bridge's entries of a kind with a VID and an address, in list order.
unfoldable pub entry_ports : ℕ → ℕ → ℕ → List ℕ → List ℕ
entry_ports kind vid address ws =
    map (λ e. e.port)
    (selected (λ e. eqb e.kind kind && eqb e.vid vid && eqb e.address address) (entries_in ws))

abbrev pub crossed_by : List HalfLink → ℕ → Option ℕ → Option Link
crossed_by hs u none = none
crossed_by hs u (some port) = crossed hs u port

-- "it leaves by the port of the one entry of kind 8 there with the VID and b's address. Without exactly one it is lost."
unfoldable pub leaves : List HalfLink → (ℕ → List ℕ) → ℕ → ℕ → ℕ → Option Link
leaves hs lists vid address u = crossed_by hs u (only (entry_ports 8 vid address (lists u)))

abbrev pub then_on : (ℕ → List Link) → Option Link → List Link
then_on next none = []
then_on next (some l) = l ∷ next (to l)

-- The links that an individual frame crosses from the bridge `u` on, in at most `n` moves: "An individual frame for b starts at a
-- and stops at b." `leave` gives the link by which it leaves a bridge, or none where it is lost.
unfoldable pub crossings : (ℕ → Option Link) → ℕ → ℕ → ℕ → List Link
crossings leave b zero u = []
crossings leave b (suc n) u = cond (eqb u b) [] (then_on (crossings leave b n) (leave u))

-- "the bridges where it stood, in order".
abbrev pub stood : ℕ → List Link → List ℕ
stood a ls = a ∷ map to ls

-- The links by which the copies at a bridge leave: "once for each entry of kind 9 at its bridge with the VID and the group address
-- of sender and I-SID, by that entry's port".
unfoldable pub copies_leave : List HalfLink → (ℕ → List ℕ) → ℕ → ℕ → ℕ → List Link
copies_leave hs lists vid address u = flat_map (λ port. list_of (crossed hs u port)) (entry_ports 9 vid address (lists u))

-- The bridges of the copies of round `n`, one for each copy: "A group frame begins in round 0 as one copy at its sender". "In each
-- next round every copy of the last round leaves".
unfoldable pub copies : (ℕ → List Link) → ℕ → ℕ → List ℕ
copies leave sender zero = sender ∷ []
copies leave sender (suc n) = map to (flat_map leave (copies leave sender n))

-- The links that copies cross in the rounds 1 to `n`.
unfoldable pub copies_cross : (ℕ → List Link) → ℕ → ℕ → List Link
copies_cross leave sender zero = []
copies_cross leave sender (suc n) = copies_cross leave sender n ++ flat_map leave (copies leave sender n)

-- "A bridge is reached once for each copy that enters it; all rounds count": the bridges entered in the rounds 1 to `n`.
abbrev pub reached : (ℕ → List Link) → ℕ → ℕ → List ℕ
reached leave sender n = map to (copies_cross leave sender n)

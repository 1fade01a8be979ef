-- What request A3 of document 02 says of a plan in two parts, as a statement over every accepted table. This file states; PortsDownProved
-- has the proof. Assumes nothing.
use Rattle.std.specs.Prelude.{ℕ, ◌<◌, ◌≡◌, ◌≢◌, List, Bool, false, length}
use Rattle.lists.specs.Members.{In}
use Rattle.rule.specs.Records.{HalfLink, Vid}
use Rattle.rule.specs.Outcome.{answered, refused_as}
use Rattle.rule.specs.Plan.{Plan, plan_of_vid}
use Rattle.rule.specs.Check.{verdict}
use Rattle.rule.specs.Links.{Link, links_of, from, to, neither_down}
use Rattle.rule.specs.Calls.{path_outcome}

-- "two parts of a plan that marked links alone join": `part` says in which of the two a bridge is, and of every link from one to the other
-- a half is down.
abbrev pub MarkedLinksAlone : List HalfLink → (ℕ → Bool) → Type 0
MarkedLinksAlone hs part = (l : Link) → In l (links_of hs) → part (from l) ≢ part (to l) → neither_down l ≡ false

-- "Between two parts of a plan that marked links alone join, 12 is given": for a bridge of each part, in either order, whatever list is
-- lent, and the list keeps every word.
abbrev pub PartsApart : Type 0
PartsApart =
    (t : List ℕ) (p : Plan) →
    verdict t ≡ answered p →
    (v : Vid) →
    In v p.vids →
    (part : ℕ → Bool) →
    MarkedLinksAlone (plan_of_vid p v).half_links part →
    (a b : ℕ) →
    a < length p.bridges →
    b < length p.bridges →
    part a ≢ part b →
    (lent : List ℕ) →
    path_outcome t v.vid a b lent ≡ (refused_as 12, lent)

-- The port by which a chosen path leaves a bridge, from the labels of the tree rooted at the path's start (01, "Entries": "passes this
-- bridge and leaves it there"). The way from the path's end goes hop by hop towards the root: the hop that comes to the bridge is the
-- hop by which the path leaves it, in the other direction. Assumes nothing.
use Rattle.std.specs.Prelude.{ℕ, zero, suc, ◌+◌, ◌≤◌, ◌<◌, ◌≡◌, List, [], ◌∷◌, cond, eqb, length, get_or}
use Rattle.std.proofs.Math.Option.{Option, none, some, map}
use Rattle.lists.specs.Appending.{each_of}
use Rattle.rule.specs.Records.{HalfLink}
use Rattle.rule.specs.Plan.{Plan}
use Rattle.rule.specs.Links.{hop_link}
use Rattle.rule.specs.Paths.{chosen_path}
use Rattle.rule.specs.Entries.{leaving_port}
use Rattle.labels.specs.Labels.{no_cost, label_at}
use Rattle.tree.specs.Trees.{Ordered}

-- A port as a number, 0 where there is none.
abbrev pub number_of : Option ℕ → ℕ
number_of none = 0
number_of (some port) = port

-- The port of the hop from `b` to `u`.
abbrev pub port_to : List HalfLink → ℕ → ℕ → ℕ
port_to hs b u = number_of (map (λ l. l.here.port) (hop_link hs b u))

-- The list has for each of the first `n` bridges the port of the hop from `b` to it.
pub record PlanHops (p : Plan) (n b : ℕ) (hops : List ℕ) : Type 0 where
  pub each : (u : ℕ) → u < n → get_or hops u 0 ≡ port_to p.half_links b u

-- The port by which a path, where there is one, leaves `b`.
abbrev pub port_on : List HalfLink → ℕ → Option (List ℕ) → ℕ
port_on hs b none = 0
port_on hs b (some path) = number_of (leaving_port hs b path)

-- For each bridge the port by which the chosen path from `a` to it leaves `b`, 0 where it does not pass `b` or ends there.
pub record EgressRow (p : Plan) (index a b : ℕ) (row : List ℕ) : Type 0 where
  pub each : (d : ℕ) → d < length p.bridges → get_or row d 0 ≡ port_on p.half_links b (chosen_path p index a d)

-- The port of the hop by which the way of `k` hops from `c` towards the root comes to `b`.
unfoldable pub walked : List ℕ → List ℕ → ℕ → ℕ → ℕ → ℕ
walked labels hops b zero c = 0
walked labels hops b (suc k) c =
    cond (eqb (label_at labels c).next b) (get_or hops c 0) (walked labels hops b k (label_at labels c).next)

unfoldable pub leaving_by : List ℕ → List ℕ → ℕ → ℕ → ℕ
leaving_by labels hops b d = cond (eqb (label_at labels d).cost no_cost) 0 (walked labels hops b (label_at labels d).hops d)

-- The row that the labels give.
abbrev pub egress_row_by : List ℕ → List ℕ → ℕ → ℕ → List ℕ
egress_row_by labels hops b n = each_of (λ d. leaving_by labels hops b d ∷ []) n

-- The port of the bridge `d` by the row that has that of its next hop: the port of its last hop where this starts at `b`, else that of
-- its next hop.
abbrev pub port_through : List ℕ → List ℕ → ℕ → List ℕ → ℕ → ℕ
port_through labels hops b row d = cond (eqb (label_at labels d).next b) (get_or hops d 0) (get_or row (label_at labels d).next 0)

-- From every bridge with a path, next hops lead to the root, with one hop less each time, and the labels hold these bridges in an order
-- in which each comes after its next hop.
pub record Walkable (labels : List ℕ) (n : ℕ) : Type 0 where
  pub most : n ≤ 64
  pub root : ℕ
  pub ordered : Ordered n root labels
  pub onward : (u : ℕ) → u < n → ((label_at labels u).cost ≡ no_cost → ⊥) → 0 < (label_at labels u).hops
      → ((label_at labels u).next < n)
      × ((label_at labels (label_at labels u).next).cost ≡ no_cost → ⊥)
      × ((label_at labels u).hops ≡ (label_at labels (label_at labels u).next).hops + 1)

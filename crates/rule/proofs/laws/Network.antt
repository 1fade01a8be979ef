-- What frames move over: an accepted plan, one of its VIDs, and for each bridge the words of its entries; and the paths that the
-- definitions choose there. Assumes nothing.
use Rattle.std.specs.Prelude.{ℕ, ◌<◌, ◌≡◌, List, length}
use Rattle.std.proofs.Math.Option.{none, some}
use Rattle.graph.specs.Graph.{Graph, GraphLaws, KeyLaws, IsPath}
use Rattle.graph.specs.Chosen.{Chosen}
use Rattle.lists.specs.Members.{In}
use Rattle.graph.proofs.laws.Enumeration.{chosen_is, is_chosen, no_path-none}
use Rattle.rule.specs.Records.{HalfLink, Vid}
use Rattle.rule.specs.Plan.{Plan, plan_of_vid}
use Rattle.rule.specs.Links.{graph_of}
use Rattle.rule.specs.Identifiers.{key_of}
use Rattle.rule.specs.Paths.{chosen_path}
use Rattle.rule.specs.Entries.{entry_list_of}
use Rattle.rule.specs.PlanLaws.{PlanLaws}
use Rattle.rule.proofs.laws.VidPlan.{vid-plan-laws}
use Rattle.rule.proofs.laws.LinkLaws.{graph-laws}
use Rattle.rule.proofs.laws.IdentifierLaws.{key_laws}

module _ (p : Plan) (L : PlanLaws p) (index : ℕ) where
  -- The path of the definitions is the chosen path of the plan's graph; none where no path exists.
  pub chosen_is_path : (a b : ℕ) (q : List ℕ) → Chosen (graph_of p) (key_of p index) a b q → chosen_path p index a b ≡ some q
  unfolding chosen_path
  chosen_is_path a b q P = is_chosen (graph_of p) (graph-laws p L) (key_of p index) (key_laws p L index) a b q P

  pub path_is_chosen : (a b : ℕ) (q : List ℕ) → chosen_path p index a b ≡ some q → Chosen (graph_of p) (key_of p index) a b q
  unfolding chosen_path
  path_is_chosen a b q e = chosen_is (graph_of p) (graph-laws p L) (key_of p index) (key_laws p L index) a b q e

  pub no_path_is_none : (a b : ℕ) → ((q : List ℕ) → IsPath (graph_of p) a b q → ⊥) → chosen_path p index a b ≡ none
  unfolding chosen_path
  no_path_is_none a b f = no_path-none (graph_of p) (graph-laws p L) (key_of p index) a b f

pub record Network : Type 0 where
  pub plan : Plan
  pub laws : PlanLaws plan
  pub vid : Vid
  pub of_plan : In vid plan.vids
  pub lists : ℕ → List ℕ
  pub written : (u : ℕ) → u < length plan.bridges → lists u ≡ entry_list_of plan u

module _ (N : Network) where
  abbrev pub size : ℕ
  size = length N.plan.bridges

  -- The plan that the paths of the VID are chosen in, and its laws.
  abbrev pub vid_plan : Plan
  vid_plan = plan_of_vid N.plan N.vid

  pub vid-laws : PlanLaws vid_plan
  vid-laws = vid-plan-laws N.plan N.laws N.vid

  abbrev pub links : List HalfLink
  links = vid_plan.half_links

  -- The graph of that plan, and the keys of its bridges for the VID's index.
  abbrev pub graph : Graph
  graph = graph_of vid_plan

  abbrev pub key : ℕ → ℕ
  key = key_of vid_plan N.vid.index

  pub graph_meets : GraphLaws graph
  graph_meets = graph-laws vid_plan vid-laws

  pub key_meets : KeyLaws graph key
  key_meets = key_laws vid_plan vid-laws N.vid.index

  abbrev pub ChosenFor : ℕ → ℕ → List ℕ → Type 0
  ChosenFor a b q = Chosen graph key a b q

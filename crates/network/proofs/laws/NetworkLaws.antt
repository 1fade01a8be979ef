-- The network of a plan stands for its graph, and its keys for those of an ECT index; and the network made of a checked table is that of
-- its plan. Assumes nothing.
use Rattle.std.specs.Prelude.{ℕ, ◌+◌, ◌*◌, ◌-◌, ◌≤◌, ◌<◌, ◌≡◌, refl, List, ◌++◌, Bool, true, false, not, eqb, length, get_or, set, take, drop}
use Rattle.std.proofs.Common.{arith, sym, ap, ◌∙◌, subst, get_or-set_same, get_or-set_other, length-set}
use Rattle.std.proofs.Math.Option.{Option, none, some}
use Rattle.lists.specs.Lists.{spliced}
use Rattle.lists.proofs.laws.Splices.{length-spliced, put_back, place-before, place-within}
use Rattle.rule.specs.Words.{words_of}
use Rattle.rule.specs.Plan.{Plan, bridge_at}
use Rattle.rule.specs.PlanLaws.{PlanLaws}
use Rattle.rule.specs.Links.{Link, graph_of, hop_link, cost_of}
use Rattle.rule.proofs.laws.LinkLaws.{hop-takes, hop-joined, joined-hop, graph-laws}
use Rattle.rule.specs.Identifiers.{mask_of, masked_bytes, without_extension, key_of}
use Rattle.rule.proofs.laws.IdentifierLaws.{key_laws}
use Rattle.table.specs.declared.shape.Shape.{Shape}
use Rattle.table.specs.Positions.{plan_at}
use Rattle.ect.proofs.laws.MaskLaws.{masked_by_index}
use Rattle.tree.specs.Trees.{mark_at, Represents, Keyed, Represented, IsTree}
use Rattle.verdict.specs.Examination.{Checked}
use Rattle.verdict.proofs.laws.CheckedLaws.{bridges-counted, few-bridges}
use Rattle.network.specs.Layout.{neighbours_at, costs_at, ports_at, starts_at, marks_at, identifiers_at, network_words, bridges_in, starts_in, neighbours_in, costs_in, ports_in, identifier_in}
use Rattle.network.proofs.laws.LayoutLaws.{part_at, part_length}
use Rattle.network.specs.Neighbours.{NeighboursOf, HopsListed, Kept}
use Rattle.network.proofs.laws.NeighbourLaws.{listed_kept, neighbours_of_plan}
use Rattle.network.specs.Networks.{mark_of, BridgeWords, NetworkOf, TableNetwork, IsNetwork, KeysOf, TreeIn}

module _ (p : Plan) (L : PlanLaws p) where
  -- "usable when that is below 16,777,215".
  pub hop-usable : (u v : ℕ) → (graph_of p).hop u v ≤ 16777214
  hop-usable u v = go (hop_link p.half_links u v) refl
    where
      go : (o : Option Link) → hop_link p.half_links u v ≡ o → cost_of o ≤ 16777214
      go none e = omega arith
      go (some l) e = omega (arith, (hop-takes p.half_links u v l e).link.usable)

  -- "An overloaded bridge .. never lies between": its mark is not 0.
  may_pass : (overloaded : Bool) → not overloaded ≡ eqb (mark_of overloaded) 0
  may_pass true = refl
  may_pass false = refl

  pub neighbours_represent :
      {n : ℕ} {starts neighbours costs ports : List ℕ} →
      length p.bridges ≡ n →
      NeighboursOf p n starts neighbours costs ports →
      65 + n ≤ length starts →
      ((u : ℕ) → u < n → mark_at starts u ≡ mark_of (bridge_at p u).overloaded) →
      512 ≤ length neighbours →
      512 ≤ length costs →
      Represents (graph_of p) n starts neighbours costs
  neighbours_represent e N s k m c =
      record {
        size_is = e;
        most = omega (arith, L.bridges.few);
        laws = graph-laws p L;
        marked = λ u l. may_pass (bridge_at p u).overloaded ∙ ap (λ (x : ℕ). eqb x 0) (sym (k u l));
        hop_most = hop-usable;
        has_starts = s;
        in_order = N.in_order;
        has_neighbours = λ u l. omega (arith, N.few u l);
        has_costs = λ u l. omega (arith, N.few u l);
        joined = λ u i l a b. let (k, f, g, h) = N.joined u i l a b in hop-joined p L u _ k f;
        cost_is = λ u i l a b. let (k, f, g, h) = N.joined u i l a b in g ∙ sym (ap cost_of f);
        listed = λ u v l j. let (k, f) = joined-hop p L u v j in N.listed u v l k f;
      }

-- The keys that the masking writes are those of the index.
module _ {net : List ℕ} (index mask : ℕ) (keys : List ℕ) (m : mask ≡ mask_of index) (K : KeysOf net mask keys) where
  keyed : (p : Plan) → NetworkOf p net → Keyed (graph_of p) (key_of p index) keys
  keyed p B = record {
    laws = key_laws p B.laws index;
    has_keys = omega (arith, B.represents.size_is, K.has_keys);
    key_is = λ u l.
        let h : u < bridges_in net = omega (arith, B.represents.size_is)
        in K.held u h
        ∙ ap (λ (x : ℕ). masked_bytes 8 x (identifier_in net u)) m
        ∙ ap (masked_bytes 8 (mask_of index)) (B.identified u h)
        ∙ masked_by_index index (without_extension (bridge_at p u).identifier);
  }

  -- The search over the parts of a network finds the tree of its plan.
  module _ (n : ℕ) (counted : n ≡ bridges_in net) where
    pub network-represented : IsNetwork net → Represented n (starts_in net) (neighbours_in net) (costs_in net) keys
    network-represented L =
        record {
          graph = graph_of L.plan;
          key = key_of L.plan index;
          represents = rw counted L.network.represents;
          keyed = keyed L.plan L.network;
        }

    pub tree_in_network : (root : ℕ) (labels : List ℕ) → IsTree n (starts_in net) (neighbours_in net) (costs_in net) keys root labels
        → TreeIn net index root labels
    tree_in_network root labels t =
        record { of_plan = λ p B. t.of_graph (graph_of p) (key_of p index) (rw counted B.represents) (keyed p B) }

-- The network made of a checked table is that of its plan: the hops were listed in `net`, then marks and identifiers written behind them,
-- then the number of bridges in front.
module _ {t : List ℕ} {s : Shape} (C : Checked t s) {net words : List ℕ} (N : HopsListed (plan_at (words_of t) s) s.bridges 512 net)
    (size : length net ≡ network_words) (W : BridgeWords (plan_at (words_of t) s) s.bridges words)
    (behind : length words ≡ length net - marks_at) where
  abbrev written : List ℕ
  written = take marks_at net ++ (words ++ drop (length net - marks_at) (drop marks_at net))

  abbrev made : List ℕ
  made = set written 0 s.bridges

  written_is : written ≡ spliced net marks_at words
  written_is = put_back net words marks_at (length net - marks_at) behind

  written-length : length written ≡ length net
  written-length = ap length written_is ∙ length-spliced net marks_at words (omega arith)

  pub made-length : length made ≡ network_words
  made-length = length-set written 0 s.bridges ∙ written-length ∙ size

  same : (i : ℕ) → neighbours_at ≤ i → i < marks_at → get_or made i 0 ≡ get_or net i 0
  same i a b =
      get_or-set_other written 0 i s.bridges 0 (λ e. omega arith)
      ∙ ap (λ (x : List ℕ). get_or x i 0) written_is
      ∙ place-before net marks_at words i 0 b (omega arith)

  all_same : Kept net made 512
  all_same =
      record {
        same_length = made-length ∙ sym size;
        same_starts = λ w l. same (starts_at + w) (omega arith) (omega arith);
        same_hops = record {
          same_neighbours = λ k l. same (neighbours_at + k) (omega arith) (omega arith);
          same_costs = λ k l. same (costs_at + k) (omega arith) (omega arith);
          same_ports = λ k l. same (ports_at + k) (omega arith) (omega arith);
        };
      }

  word_at : (j : ℕ) → j < length words → get_or made (marks_at + j) 0 ≡ get_or words j 0
  word_at j l =
      get_or-set_other written 0 (marks_at + j) s.bridges 0 (λ e. omega arith)
      ∙ ap (λ (x : List ℕ). get_or x (marks_at + j) 0) written_is
      ∙ place-within net marks_at words j 0 l (omega arith)

  counted : bridges_in made ≡ s.bridges
  counted = get_or-set_same written 0 s.bridges 0 (omega (arith, written-length))

  hops_listed : NeighboursOf (plan_at (words_of t) s) s.bridges (starts_in made) (neighbours_in made) (costs_in made) (ports_in made)
  hops_listed = neighbours_of_plan (few-bridges C) (listed_kept (omega (arith, few-bridges C)) all_same N)

  -- The mark of a bridge, at its place of the network.
  mark_at_lem : (u : ℕ) → u < s.bridges → get_or made (marks_at + u) 0 ≡ mark_of (bridge_at (plan_at (words_of t) s) u).overloaded
  mark_at_lem u l = word_at u (omega (arith, few-bridges C)) ∙ W.marked u l

  -- The same among the starts, where the search reads it.
  mark_behind : (u : ℕ) → u < s.bridges → mark_at (starts_in made) u ≡ mark_of (bridge_at (plan_at (words_of t) s) u).overloaded
  mark_behind u l =
      part_at made starts_at 129 (65 + u) (omega (arith, few-bridges C))
      ∙ ap (λ (i : ℕ). get_or made i 0) (omega arith)
      ∙ mark_at_lem u l

  pub network_of_table : NetworkOf (plan_at (words_of t) s) made
  network_of_table = record {
    size = omega (arith, made-length);
    laws = C.laws;
    represents = subst (λ (n : ℕ). Represents (graph_of (plan_at (words_of t) s)) n (starts_in made) (neighbours_in made) (costs_in made)) (sym counted)
        (neighbours_represent (plan_at (words_of t) s) C.laws (bridges-counted C) hops_listed
        (omega (arith, part_length made starts_at 129 (omega (arith, made-length)), few-bridges C))
        mark_behind
        (omega (arith, part_length made neighbours_at 512 (omega (arith, made-length))))
        (omega (arith, part_length made costs_at 512 (omega (arith, made-length)))));
    hops = subst (λ (n : ℕ). NeighboursOf (plan_at (words_of t) s) n (starts_in made) (neighbours_in made) (costs_in made) (ports_in made)) (sym counted) hops_listed;
    marked = λ u l. part_at made marks_at 64 u (omega (arith, counted, few-bridges C)) ∙ mark_at_lem u (omega (arith, counted));
    identified = λ u l.
        let first : get_or made (marks_at + (64 + 2 * u)) 0 ≡ get_or words (64 + 2 * u) 0 = word_at (64 + 2 * u) (omega (arith, counted, few-bridges C))
        in let second : get_or made (marks_at + (64 + 2 * u + 1)) 0 ≡ get_or words (64 + 2 * u + 1) 0 =
        word_at (64 + 2 * u + 1) (omega (arith, counted, few-bridges C))
        in let third : get_or made (identifiers_at + 2 * u) 0 ≡ get_or made (marks_at + (64 + 2 * u)) 0 = ap (λ (i : ℕ). get_or made i 0) (omega arith)
        in let fourth : get_or made (identifiers_at + 2 * u + 1) 0 ≡ get_or made (marks_at + (64 + 2 * u + 1)) 0 = ap (λ (i : ℕ). get_or made i 0) (omega arith)
        in omega (arith, first, second, third, fourth, W.identified u (omega (arith, counted)));
  }

-- A checked table's network has its bridges.
pub bridges-in-table : {t net : List ℕ} {s : Shape} → TableNetwork t s net → bridges_in net ≡ s.bridges
bridges-in-table T = sym T.network.represents.size_is ∙ bridges-counted T.checked

pub is_network : {t net : List ℕ} {s : Shape} → TableNetwork t s net → IsNetwork net
is_network {t} {net} {s} T = record { plan = plan_at (words_of t) s; network = T.network }

-- The statements of request A6 proved: chosen paths are those of document 01's keys in the plan without extensions, tables that differ in
-- extensions alone are answered alike, and tables without them as before. Assumes nothing.
use Rattle.std.specs.Prelude.{ℕ, zero, suc, ◌+◌, ◌*◌, ◌^◌, ◌≤◌, ◌<◌, ◌≡◌, refl, ◌⊎◌, cond, ◌&&◌, ltb, length, get_or, drop}
use Rattle.std.proofs.Common.{arith, sym, ◌∙◌, inl, inr}
use Rattle.std.proofs.Math.Path.{ap}
use mathlib.Core.List.{List, [], ◌∷◌, ◌++◌, map, flat_map}
use Rattle.std.proofs.Math.Option.{Option, none, some}
use Rattle.std.proofs.Math.Bool.{not}
use Rattle.std.proofs.Math.Dec.{eqb}
use Rattle.std.proofs.lemmas.List.{length-map}
use Rattle.std.proofs.Math.ListN.{get_or-eq_default}
use Rattle.lists.specs.Lists.{rising, selected}
use Rattle.lists.specs.Members.{In, sum_over}
use Rattle.lists.proofs.laws.NumberLaws.{le_or_gt}
use Rattle.lists.proofs.laws.DistinctLaws.{place_in}
use Rattle.lists.proofs.laws.PartLaws.{rest_in}
use Rattle.graph.specs.Graph.{cost, hops}
use Rattle.graph.specs.Chosen.{chosen}
use Rattle.graph.specs.Pairs.{Pair, joined_pairs}
use Rattle.rule.specs.Words.{words_of, word, bits}
use Rattle.rule.specs.Records.{Bridge, Vid, Member, Traffic, address, bridge_of}
use Rattle.rule.specs.Outcome.{Outcome, answered, and_then, refused_as, list_answer, lent_to}
use Rattle.rule.specs.Plan.{Plan, no_bridge, bridge_at, vid_at, vid_record, plan_of_vid}
use Rattle.rule.specs.Check.{verdict}
use Rattle.rule.specs.Links.{hop_link, cost_of, graph_of}
use Rattle.rule.specs.Identifiers.{masked_identifier, without_extension, key_of}
use Rattle.rule.specs.Paths.{chosen_path}
use Rattle.rule.specs.Entries.{entry_words, first_port, leaving_port, ports_of, individual_entry, individual_entries, group_address, receives, receiver_ports, listed_ports, group_entry, group_entries, entries_of, entry_list_of}
use Rattle.rule.specs.Calls.{named, path_found, last_but_one, branch_of, tree_of, plan_path, plan_branches, plan_entries, lent_to_three, path_answer, path_outcome, tree_outcome, entries_answer, entries_outcome}
use Rattle.rule.specs.Loads.{vid_place, index_for, traffic_path, has_path, path_takes, load_of, total_load, lost_load}
use Rattle.rule.specs.Extensions.{plain_bridge, without_extensions, key_before, LeastUnderNewOrder, ExtensionsIgnored, PlainAsBefore}
use Rattle.rule.proofs.laws.IdentifierLaws.{address-untouched}
use Rattle.rule.proofs.laws.MemberWords.{words_fit}
use Rattle.rule.proofs.laws.NoneOverloaded.{bridge-words}

-- Clearing twice is clearing once.
plain_twice : (i : ℕ) → without_extension (without_extension i) ≡ without_extension i
plain_twice i = omega arith

-- The bridge of a number in the plan without extensions; a bridge that is not there has none.
plain_at : (bs : List Bridge) (u : ℕ) → get_or (map plain_bridge bs) u no_bridge ≡ plain_bridge (get_or bs u no_bridge)
plain_at [] u = refl
plain_at (b ∷ bs) zero = refl
plain_at (b ∷ bs) (suc u) = plain_at bs u

module _ (p : Plan) where
  abbrev plain : Plan
  plain = without_extensions p

  pub same_size : length plain.bridges ≡ length p.bridges
  same_size = length-map p.bridges plain_bridge

  -- The graph has nothing of the identifiers.
  pub same_graph : graph_of plain ≡ graph_of p
  same_graph = λ i. record {
    size = same_size i;
    hop = λ u v. cost_of (hop_link p.half_links u v);
    between = λ u. ap (λ (b : Bridge). not b.overloaded) (plain_at p.bridges u) i;
  }

  keys-before : (index : ℕ) → key_before plain index ≡ key_of p index
  keys-before index = λ i u. ap (λ (b : Bridge). masked_identifier index b.identifier) (plain_at p.bridges u) i

  same_keys : (index : ℕ) → key_of plain index ≡ key_of p index
  same_keys index = λ i u. key-at u i
    where
      key-at : (u : ℕ) → key_of plain index u ≡ key_of p index u
      key-at u =
          ap (λ (b : Bridge). masked_identifier index (without_extension b.identifier)) (plain_at p.bridges u)
          ∙ ap (masked_identifier index) (plain_twice (bridge_at p u).identifier)

  same-path : (index a b : ℕ) → chosen_path plain index a b ≡ chosen_path p index a b
  unfolding chosen_path
  same-path index a b = λ i. chosen (same_graph i) (same_keys index i) a b

  -- The address and the SPsourceID that entries name.
  same_address : (u : ℕ) → address (bridge_at plain u) ≡ address (bridge_at p u)
  same_address u = ap address (plain_at p.bridges u) ∙ address-untouched (bridge_at p u).identifier

  same_source : (u : ℕ) → (bridge_at plain u).sp_source_id ≡ (bridge_at p u).sp_source_id
  same_source u = ap (λ (b : Bridge). b.sp_source_id) (plain_at p.bridges u)

  same-individual : (v : Vid) (b : ℕ) → individual_entries plain v b ≡ individual_entries p v b
  unfolding individual_entries
  same-individual v b = λ i.
      flat_map
      (λ d. map (entry_to d i) (ports_of (first_port p.half_links) (same-path v.index b d i)))
      (selected (λ d. not (eqb d b)) (rising 0 (same_size i)))
    where
      entry_to : (d : ℕ) → individual_entry plain v d ≡ individual_entry p v d
      entry_to d = λ i port. record { kind = 8; vid = v.vid; port = port; address = same_address d i }

  same-receivers : (v : Vid) (b : ℕ) (ms : List Member) (m : Member) → receiver_ports plain v b ms m ≡ receiver_ports p v b ms m
  unfolding receiver_ports
  same-receivers v b ms m = λ i.
      flat_map (λ r. ports_of (leaving_port p.half_links b) (same-path v.index m.bridge r.bridge i)) (selected (receives m) ms)

  same-group : (v : Vid) (b : ℕ) (ms : List Member) → group_entries plain v b ms ≡ group_entries p v b ms
  unfolding group_entries
  same-group v b ms = λ i.
      flat_map (λ m. map (entry_of m i) (listed_ports (same-receivers v b ms m i)))
      (selected (λ m. m.transmits && eqb m.vid v.vid) ms)
    where
      entry_of : (m : Member) → group_entry plain v m ≡ group_entry p v m
      entry_of m = λ i port. record { kind = 9; vid = v.vid; port = port; address = group_address (same_source m.bridge i) m.isid }

  same_branch : (o : Option (List ℕ)) → branch_of plain o ≡ branch_of p o
  same_branch none = refl
  same_branch (some path) = λ i. record { cost = cost (same_graph i) path; hops = hops path; last = last_but_one path }

  same-tree : (index a : ℕ) → tree_of plain index a ≡ tree_of p index a
  unfolding tree_of
  same-tree index a = λ i. map (λ b. branch-at b i) (rising 0 (same_size i))
    where
      branch-at : (b : ℕ) → branch_of plain (chosen_path plain index a b) ≡ branch_of p (chosen_path p index a b)
      branch-at b = same_branch (chosen_path plain index a b) ∙ ap (branch_of p) (same-path index a b)

  same-found : (o : Option (List ℕ)) → path_found plain o ≡ path_found p o
  same-found none = refl
  same-found (some path) = λ i. answered (record { values = record { cost = cost (same_graph i) path; hops = hops path }; words = path })

-- What the calls answer of a plan, whatever is lent.
module _ (p : Plan) where
  pub plain-path : (vid a b : ℕ) → plan_path (without_extensions p) vid a b ≡ plan_path p vid a b
  plain-path vid a b = λ i.
      named (ltb a (same_size p i) && ltb b (same_size p i)) (vid_record p vid) (λ v. found v i)
    where
      found : (v : Vid)
          → path_found (without_extensions (plan_of_vid p v)) (chosen_path (without_extensions (plan_of_vid p v)) v.index a b)
          ≡ path_found (plan_of_vid p v) (chosen_path (plan_of_vid p v) v.index a b)
      found v =
          same-found (plan_of_vid p v) (chosen_path (without_extensions (plan_of_vid p v)) v.index a b)
          ∙ ap (path_found (plan_of_vid p v)) (same-path (plan_of_vid p v) v.index a b)

  plain_branches : (vid a : ℕ) → plan_branches (without_extensions p) vid a ≡ plan_branches p vid a
  plain_branches vid a = λ i.
      named (ltb a (same_size p i)) (vid_record p vid) (λ v. answered (same-tree (plan_of_vid p v) v.index a i))

  same_list : (b : ℕ) → entry_list_of (without_extensions p) b ≡ entry_list_of p b
  unfolding entry_list_of entries_of
  same_list b = λ i.
      flat_map entry_words (flat_map (λ v. same-individual (plan_of_vid p v) v b i ++ same-group (plan_of_vid p v) v b p.members i) p.vids)

  pub plain_entries : (b : ℕ) → plan_entries (without_extensions p) b ≡ plan_entries p b
  plain_entries b = λ i. cond (ltb b (same_size p i)) (list_answer (same_list b i)) (refused_as 11)

  -- What the load report says of it, for every assignment of ECT indexes.
  same-traffic : (indexes : List ℕ) (t : Traffic) → traffic_path (without_extensions p) indexes t ≡ traffic_path p indexes t
  unfolding traffic_path
  same-traffic indexes t = same-path (plan_of_vid p (vid_at p (vid_place p t.vid))) (index_for p indexes t) t.from t.to

  pub plain_load : (indexes : List ℕ) (ts : List Traffic) (q : Pair) → load_of (without_extensions p) indexes ts q ≡ load_of p indexes ts q
  unfolding load_of
  plain_load indexes ts q = λ i. sum_over (λ t. t.amount) (selected (λ t. path_takes q (same-traffic indexes t i)) ts)

  pub plain-total : (indexes : List ℕ) (ts : List Traffic) → total_load (without_extensions p) indexes ts ≡ total_load p indexes ts
  unfolding total_load
  plain-total indexes ts = λ i. sum_over (λ q. plain_load indexes ts q i) (joined_pairs (same_graph p i))

  pub plain-lost : (indexes : List ℕ) (ts : List Traffic) → lost_load (without_extensions p) indexes ts ≡ lost_load p indexes ts
  unfolding lost_load
  plain-lost indexes ts = λ i. sum_over (λ t. t.amount) (selected (λ t. not (has_path (same-traffic indexes t i))) ts)

pub least_under_new-order : LeastUnderNewOrder
unfolding chosen_path
least_under_new-order p index a b = λ i. chosen (sym (same_graph p) i) (sym (keys-before p index) i) a b

-- Whatever is the same of a plan and of that without extensions is the same of two tables that differ in extensions alone.
module _ {A : Type 0} (answer : Plan → Outcome A) (same : (p : Plan) → answer (without_extensions p) ≡ answer p) where
  same_answer : (t u : List ℕ) (p q : Plan) → verdict t ≡ answered p → verdict u ≡ answered q → without_extensions p ≡ without_extensions q
      → and_then (verdict t) answer ≡ and_then (verdict u) answer
  same_answer t u p q e f w =
      ap (λ (o : Outcome Plan). and_then o answer) e ∙ sym (same p) ∙ ap answer w ∙ same q ∙ ap (λ (o : Outcome Plan). and_then o answer) (sym f)

pub extensions_ignored : ExtensionsIgnored
unfolding path_outcome path_answer tree_outcome entries_outcome entries_answer
extensions_ignored t u p q e f w = (
  λ vid a b lent. ap (lent_to lent) (same_answer (λ r. plan_path r vid a b) (λ r. plain-path r vid a b) t u p q e f w),
  λ vid a costs hop_counts lasts.
      ap (lent_to_three costs hop_counts lasts) (same_answer (λ r. plan_branches r vid a) (λ r. plain_branches r vid a) t u p q e f w),
  λ b lent. ap (lent_to lent) (same_answer (λ r. plan_entries r b) (λ r. plain_entries r b) t u p q e f w),
)

-- Two words of 32 bits, whose 12 bits of the extension are zero, make an identifier that clearing leaves as it is.
plain_already : (upper lower : ℕ) → upper < 2 ^ 32 → lower < 2 ^ 32 → bits upper 27 16 ≡ 0
    → without_extension (upper * 2 ^ 32 + lower) ≡ upper * 2 ^ 32 + lower
plain_already upper lower h k e = omega arith

word_fits : (ws : List ℕ) → ((w : ℕ) → In w ws → w < 2 ^ 32) → (n : ℕ) → word ws n < 2 ^ 32
word_fits ws fit n = go (le_or_gt (length ws) n)
  where
    go : (length ws ≤ n) ⊎ (n < length ws) → word ws n < 2 ^ 32
    go (inl h) = omega (arith, get_or-eq_default ws 0 h)
    go (inr h) = fit (word ws n) (place_in ws n 0 h)

pub plain_as_before : PlainAsBefore
unfolding chosen_path
plain_as_before t p B e clear index a b = λ i. chosen (graph_of p) (λ u. key-at u i) a b
  where
    identifier-at : (u : ℕ) → (length p.bridges ≤ u) ⊎ (u < length p.bridges)
        → without_extension (bridge_at p u).identifier ≡ (bridge_at p u).identifier
    identifier-at u (inl h) = let f : bridge_at p u ≡ no_bridge = get_or-eq_default p.bridges no_bridge h in rw f refl
    identifier-at u (inr h) =
        let r : List ℕ = drop (3 * u) (words_of t)
        in let f : bridge_at p u ≡ bridge_of r = bridge-words t p e u h
        in let fit : (n : ℕ) → word r n < 2 ^ 32 = word_fits r (λ w k. words_fit t B w (rest_in (3 * u) w (words_of t) k))
        in rw f (plain_already (word r 1) (word r 2) (fit 1) (fit 2) (clear u h))

    key-at : (u : ℕ) → key_of p index u ≡ key_before p index u
    key-at u = ap (masked_identifier index) (identifier-at u (le_or_gt (length p.bridges) u))

-- The whole list of a bridge, from the network of its table: what each step gives the next. And lists copied to where they are lent.
-- Assumes nothing.
use Rattle.std.specs.Prelude.{ℕ, ◌+◌, ◌≤◌, ◌<◌, ◌≡◌, refl, List, [], ◌∷◌, length, get_or, set, take}
use Rattle.std.proofs.Common.{arith, sym, ap, ◌∙◌, subst, le-leb, lt-ltb, le-ltb}
use Rattle.lists.specs.Lists.{rising, spliced}
use Rattle.lists.proofs.laws.GivenLaws.{flat_map-one, by_places}
use Rattle.lists.specs.Appending.{Appended, Room, each_of}
use Rattle.lists.proofs.laws.AppendingLaws.{front_is, one_word, Appending, appending_starts, appending_length, appending_room, appending_goes_on, appending_ends}
use Rattle.rule.specs.Words.{words_of}
use Rattle.rule.specs.Plan.{Plan}
use Rattle.rule.specs.PlanLaws.{PlanLaws}
use Rattle.rule.specs.Outcome.{Outcome, answered, refused_as, list_answer, overwritten, lent_to}
use Rattle.rule.specs.Calls.{plan_entries}
use Rattle.rule.specs.Entries.{entry_list_of}
use Rattle.rule.proofs.laws.ListBound.{few_words}
use Rattle.table.specs.declared.shape.Shape.{Shape}
use Rattle.table.specs.Positions.{plan_at}
use Rattle.verdict.specs.Examination.{Checked}
use Rattle.network.specs.Layout.{bridges_in}
use Rattle.network.specs.Networks.{TableNetwork}
use Rattle.network.proofs.laws.NetworkLaws.{bridges-in-table}
use Rattle.egress.specs.Hops.{HopPorts, InRange, RisingPorts}
use Rattle.egress.specs.Leaving.{PlanHops}
use Rattle.egress.proofs.laws.PlanPortLaws.{plan-hops, hops-in_range, plan-ports}
use Rattle.verdict.proofs.laws.CheckedLaws.{bridges-counted}
use Rattle.entry_rows.specs.Needed.{HopsReady, EgressRowsReady}
use Rattle.entries.specs.Parts.{whole_list}
use Rattle.entries.proofs.laws.PartLaws.{whole_is}

module _ {t : List ℕ} {s : Shape} {net : List ℕ} (N : TableNetwork t s net) (b : ℕ) (known : b < s.bridges) where
  pub in-network : b < bridges_in net
  in-network = omega (arith, bridges-in-table N)

  module _ {hops : List ℕ} (H : HopPorts net b hops) where
    hops_of_lem : PlanHops (plan_at (words_of t) s) (bridges_in net) b hops
    hops_of_lem = plan-hops N.network b in-network H

    table-hops : PlanHops (plan_at (words_of t) s) s.bridges b hops
    table-hops = subst (λ (n : ℕ). PlanHops (plan_at (words_of t) s) n b hops) (bridges-in-table N) hops_of_lem

    pub in_range : InRange hops s.bridges
    in_range = hops-in_range N.checked.laws table-hops

    pub hops-ready : 64 ≤ length hops → HopsReady t s net hops b
    hops-ready l = record { table_network = N; hop_ports = hops_of_lem; has_hops = l; known = known }

    module _ {rises : List ℕ} (G : RisingPorts hops s.bridges rises) {rows : List ℕ} (W : EgressRowsReady t s b rows) where
      list_is_lem : whole_list (words_of t) s rows rises b ≡ entry_list_of (plan_at (words_of t) s) b
      list_is_lem = whole_is N.checked W (plan-ports N.checked.laws table-hops (bridges-counted N.checked) G) known

      -- "No bridge's list exceeds 14,931 words."
      pub whole_room : (words : List ℕ) → 14931 ≤ length words → Room words 0 (whole_list (words_of t) s rows rises b)
      whole_room words l = omega (
        arith,
        ap (λ (x : List ℕ). length x) list_is_lem,
        few_words (plan_at (words_of t) s) N.checked.laws b (omega (arith, bridges-counted N.checked)),
      )

      pub whole-written : {words written : List ℕ} {end : ℕ} → Appended words 0 (whole_list (words_of t) s rows rises b) written end
          → Appended words 0 (entry_list_of (plan_at (words_of t) s) b) written end
      whole-written {words} {written} {end} A = subst (λ (x : List ℕ). Appended words 0 x written end) list_is_lem A

-- A list copied place by place.
abbrev pub places_of : List ℕ → ℕ → List ℕ
places_of words i = get_or words i 0 ∷ []

pub copied : (words : List ℕ) → each_of (places_of words) (length words) ≡ words
copied words = flat_map-one (λ i. get_or words i 0) (rising 0 (length words)) ∙ by_places words 0

-- The first `i` words are copied.
pub record Copying (words list₀ list : List ℕ) (i : ℕ) : Type 0 where
  pub so_far : Appending (places_of words) (length words) list₀ 0 i list i

pub copying_starts : (words list : List ℕ) → length words ≤ length list → Copying words list list 0
copying_starts words list l = record { so_far = appending_starts (places_of words) (length words) list 0 (omega (arith, ap (λ (x : List ℕ). length x) (copied words))) }

module _ {words list₀ list : List ℕ} {i : ℕ} (C : Copying words list₀ list i) where
  pub copying_length : length list ≡ length list₀
  copying_length = appending_length C.so_far

  pub copying_room : i < length words → i < length list
  copying_room l = omega (arith, appending_room C.so_far l)

  pub copying_goes_on : i < length words → Copying words list₀ (set list i (get_or words i 0)) (i + 1)
  copying_goes_on l = record { so_far = appending_goes_on C.so_far l (one_word list i (get_or words i 0) (copying_room l)) }

  pub copying_ends : length words ≤ i → list ≡ spliced list₀ 0 words
  copying_ends l = (appending_ends C.so_far l).words_are ∙ ap (spliced list₀ 0) (copied words)

module _ {t : List ℕ} {s : Shape} (C : Checked t s) (bridge : ℕ) where
  pub lacks_bridge : s.bridges ≤ bridge → (list : List ℕ) → ◌≡◌ {A = Outcome ℕ × List ℕ} (refused_as 11, list) (lent_to list (plan_entries (plan_at (words_of t) s) bridge))
  lacks_bridge l list = rw (le-ltb bridge (length (plan_at (words_of t) s).bridges) (omega (arith, bridges-counted C)))

  pub has-bridge : bridge < s.bridges → plan_entries (plan_at (words_of t) s) bridge ≡ list_answer (entry_list_of (plan_at (words_of t) s) bridge)
  has-bridge l = rw (lt-ltb bridge (length (plan_at (words_of t) s).bridges) (omega (arith, bridges-counted C)))

  -- The list made has at most 14,931 words.
  pub few-made : bridge < s.bridges → {lent written : List ℕ} {count : ℕ} → Appended lent 0 (entry_list_of (plan_at (words_of t) s) bridge) written count → count ≤ 14931
  few-made l A = omega (
    arith,
    A.end_is,
    few_words (plan_at (words_of t) s) C.laws bridge (omega (arith, bridges-counted C)),
  )

  pub answer-made : bridge < s.bridges → {lent written : List ℕ} {count : ℕ} → Appended lent 0 (entry_list_of (plan_at (words_of t) s) bridge) written count
      → list_answer (take count written) ≡ plan_entries (plan_at (words_of t) s) bridge
  answer-made l A = ap list_answer (front_is A) ∙ sym (has-bridge l)

-- A caller who lends 14,931 words never gets 13.
pub never_thirteen : (p : Plan) → PlanLaws p → (b : ℕ) → b < length p.bridges → (list : List ℕ) → 14931 ≤ length list
    → lent_to list (plan_entries p b) ≡ (answered (length (entry_list_of p b)), overwritten (entry_list_of p b) list)
never_thirteen p L b known list l =
    rw (lt-ltb b (length p.bridges) known, le-leb (length (entry_list_of p b)) (length list) (omega (arith, few_words p L b known))) refl

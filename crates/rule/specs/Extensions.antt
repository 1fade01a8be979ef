-- What request A6 of document 02 says of extensions in priorities, as statements over every plan and every accepted table. This file
-- states; ExtensionLaws has the proofs. Assumes nothing.
use Rattle.std.specs.Prelude.{ℕ, ◌*◌, ◌<◌, ◌≡◌, List, map, length, drop}
use Rattle.graph.specs.Chosen.{chosen}
use Rattle.rule.specs.Words.{words_of}
use Rattle.rule.specs.Records.{Bridge, field_at}
use Rattle.rule.specs.Outcome.{answered}
use Rattle.rule.specs.Plan.{Plan, bridge_at}
use Rattle.rule.specs.Check.{verdict}
use Rattle.rule.specs.Links.{graph_of}
use Rattle.rule.specs.Identifiers.{masked_identifier, without_extension}
use Rattle.rule.specs.Paths.{chosen_path}
use Rattle.rule.specs.Calls.{path_outcome, tree_outcome, entries_outcome}
use Rattle.rule.specs.ComesBack.{Bytes}

-- A bridge as it would be without the extension, and the plan of such bridges.
abbrev pub plain_bridge : Bridge → Bridge
plain_bridge b = record { overloaded = b.overloaded; sp_source_id = b.sp_source_id; identifier = without_extension b.identifier }

abbrev pub without_extensions : Plan → Plan
without_extensions p =
    record { bridges = map plain_bridge p.bridges; half_links = p.half_links; vids = p.vids; members = p.members; traffic = p.traffic }

-- The keys of document 01 alone: "Each of the eight bytes of a Bridge Identifier is XORed with the mask", whatever its priority bits are.
abbrev pub key_before : Plan → ℕ → ℕ → ℕ
key_before p index u = masked_identifier index (bridge_at p u).identifier

-- "Chosen paths are least under the new order": they are those that the keys of document 01 alone choose in the plan without
-- extensions.
abbrev pub LeastUnderNewOrder : Type 0
LeastUnderNewOrder =
    (p : Plan) (index a b : ℕ) →
    chosen_path p index a b ≡ chosen (graph_of (without_extensions p)) (key_before (without_extensions p) index) a b

-- "neighbours' own trees ignore it": two accepted tables that differ in extensions alone have the same paths, trees and entries, for every
-- question and whatever lists are lent.
abbrev pub ExtensionsIgnored : Type 0
ExtensionsIgnored =
    (t u : List ℕ) (p q : Plan) →
    verdict t ≡ answered p →
    verdict u ≡ answered q →
    without_extensions p ≡ without_extensions q →
    ((vid a b : ℕ) (lent : List ℕ) → path_outcome t vid a b lent ≡ path_outcome u vid a b lent)
    × ((vid a : ℕ) (costs hop_counts lasts : List ℕ) → tree_outcome t vid a costs hop_counts lasts ≡ tree_outcome u vid a costs hop_counts lasts)
    × ((b : ℕ) (lent : List ℕ) → entries_outcome t b lent ≡ entries_outcome u b lent)

-- Where the 12 bits of no bridge record are set, bits 27..16 of its second word, the keys of document 01 alone choose the same paths.
abbrev pub PlainAsBefore : Type 0
PlainAsBefore =
    (t : List ℕ) (p : Plan) →
    Bytes t →
    verdict t ≡ answered p →
    ((k : ℕ) → k < length p.bridges → field_at 1 27 16 (drop (3 * k) (words_of t)) ≡ 0) →
    (index a b : ℕ) →
    chosen_path p index a b ≡ chosen (graph_of p) (key_before p index) a b

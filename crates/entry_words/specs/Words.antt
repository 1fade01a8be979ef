-- The words of a bridge's entries by the ports of its rows (01, "Entries"): a row has for each bridge the port by which the path there
-- leaves the bridge whose entries are written, 0 where none does. Assumes nothing.
use Rattle.std.specs.Prelude.{ℕ, List, [], ◌∷◌, cond, eqb, length, get_or}
use Rattle.lists.specs.Lists.{any_passes}
use Rattle.lists.specs.Appending.{each_of}
use Rattle.rule.specs.Records.{Member, address}
use Rattle.rule.specs.Entries.{entry_words, receives}
use Rattle.entry_codec.specs.Codec.{entry_with}
use Rattle.table.specs.declared.shape.Shape.{Shape}
use Rattle.table.specs.Numbered.{bridge_number, member_number}

-- "for each other bridge by number that a path reaches, one entry with that bridge's address and the port of the first hop's link".
unfoldable pub individual_to : List ℕ → List ℕ → ℕ → ℕ → List ℕ
individual_to ws row vid d = cond (eqb (get_or row d 0) 0) [] (entry_words (entry_with 8 vid (get_or row d 0) (address (bridge_number ws d))))

unfoldable pub individual_words : List ℕ → Shape → List ℕ → ℕ → List ℕ
individual_words ws s row vid = each_of (individual_to ws row vid) s.bridges

-- The port behind which the member `j` is, where it receives from `m`.
unfoldable pub behind_at : List ℕ → Shape → List ℕ → Member → ℕ → List ℕ
behind_at ws s row m j = cond (receives m (member_number ws s j)) (get_or row (member_number ws s j).bridge 0 ∷ []) []

unfoldable pub ports_behind : List ℕ → Shape → List ℕ → Member → List ℕ
ports_behind ws s row m = each_of (behind_at ws s row m) s.members

-- "a group entry for each port, ports rising: a port is listed as soon as one receiver behind it is found".
unfoldable pub group_at : List ℕ → List ℕ → ℕ → ℕ → ℕ → List ℕ
group_at ports behind vid addr i =
    cond (any_passes (λ q. eqb q (get_or ports i 0)) behind) (entry_words (entry_with 9 vid (get_or ports i 0) addr)) []

unfoldable pub group_words : List ℕ → List ℕ → ℕ → ℕ → List ℕ
group_words ports behind vid addr = each_of (group_at ports behind vid addr) (length ports)

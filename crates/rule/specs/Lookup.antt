-- Entry lists read back, and the outcome of lookup (01, "Calls", and 14 under "Refusals in checking order").
-- Assumes nothing.
use Rattle.std.specs.Prelude.{ℕ, ◌+◌, ◌*◌, ◌^◌, List, [], ◌∷◌, map, Bool, false, true, not, ◌&&◌, ◌||◌, eqb}
use Rattle.std.proofs.Math.Option.{Option}
use Rattle.std.proofs.Math.ListN.{get_elem?}
use Rattle.lists.specs.Lists.{selected}
use Rattle.rule.specs.Words.{bits}
use Rattle.rule.specs.Records.{in_limits, vid_limits, port_limits, group_bit}
use Rattle.rule.specs.Outcome.{Outcome, answered, refused_if}
use Rattle.rule.specs.Entries.{Entry}

-- The entry of three words.
abbrev pub entry_of : ℕ → ℕ → ℕ → Entry
entry_of w upper lower =
    record {
      kind = bits w 31 28;
      vid = bits w 27 16;
      port = bits w 15 0;
      address = bits upper 15 0 * 2 ^ 32 + lower;
    }

-- The entries of a list of words, in list order.
unfoldable pub entries_in : List ℕ → List Entry
entries_in [] = []
entries_in (w ∷ []) = []
entries_in (w ∷ upper ∷ []) = []
entries_in (w ∷ upper ∷ lower ∷ rest) = entry_of w upper lower ∷ entries_in rest

-- "an unknown kind, a VID or port outside its range under "The table", a zero bit set, or an address whose group bit disagrees
-- with the kind": the address of kind 8 has it clear, that of kind 9 set.
abbrev pub faulty_entry : Entry → ℕ → Bool
faulty_entry e zero_bits =
    not (eqb e.kind 8 || eqb e.kind 9)
    || not (in_limits vid_limits e.vid)
    || not (in_limits port_limits e.port)
    || not (eqb zero_bits 0)
    || not (eqb (8 + group_bit e.address) e.kind)

-- "14. Lookup's list has a length that is no multiple of 3", or an entry with a fault, anywhere in it.
unfoldable pub faulty_list : List ℕ → Bool
faulty_list [] = false
faulty_list (w ∷ []) = true
faulty_list (w ∷ upper ∷ []) = true
faulty_list (w ∷ upper ∷ lower ∷ rest) = faulty_entry (entry_of w upper lower) (bits upper 31 16) || faulty_list rest

-- The ports of the entries with a VID and an address, in list order.
unfoldable pub matching_ports : List ℕ → ℕ → ℕ → List ℕ
matching_ports ws vid address =
    map (λ e. e.port) (selected (λ e. eqb e.vid vid && eqb e.address address) (entries_in ws))

-- "Lookup (entry list, VID, address, n): port of the matching entry n, counted from 0 in list order, or none." "Lookup takes no
-- table, gives only 14, and accepts an empty list."
unfoldable pub lookup_outcome : List ℕ → ℕ → ℕ → ℕ → Outcome (Option ℕ)
lookup_outcome ws vid address n = refused_if (faulty_list ws) 14 (answered (get_elem? (matching_ports ws vid address) n))

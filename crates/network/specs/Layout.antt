-- The network of a plan as one list of words, by its parts: how many bridges there are; for each hop the bridge at its other end, its cost
-- and its near port; for each bridge, and one more, the place of its first hop; the bridges' marks; and their identifiers
-- without the extension, two words each. Assumes nothing.
use Rattle.std.specs.Prelude.{ℕ, ◌+◌, ◌*◌, List, get_or, take, drop}

-- Where each part begins, and the words of all of them.
abbrev pub neighbours_at : ℕ
neighbours_at = 1

abbrev pub costs_at : ℕ
costs_at = 513

abbrev pub ports_at : ℕ
ports_at = 1025

abbrev pub starts_at : ℕ
starts_at = 1537

abbrev pub marks_at : ℕ
marks_at = 1602

abbrev pub identifiers_at : ℕ
identifiers_at = 1666

abbrev pub network_words : ℕ
network_words = 1794

abbrev pub bridges_in : List ℕ → ℕ
bridges_in net = get_or net 0 0

abbrev pub neighbours_in : List ℕ → List ℕ
neighbours_in net = take 512 (drop neighbours_at net)

abbrev pub costs_in : List ℕ → List ℕ
costs_in net = take 512 (drop costs_at net)

abbrev pub ports_in : List ℕ → List ℕ
ports_in net = take 512 (drop ports_at net)

-- The starts with the marks behind them: the search reads both as one list.
abbrev pub starts_in : List ℕ → List ℕ
starts_in net = take 129 (drop starts_at net)

abbrev pub marks_in : List ℕ → List ℕ
marks_in net = take 64 (drop marks_at net)

abbrev pub identifier_in : List ℕ → ℕ → ℕ
identifier_in net u = get_or net (identifiers_at + 2 * u) 0 * 4294967296 + get_or net (identifiers_at + 2 * u + 1) 0

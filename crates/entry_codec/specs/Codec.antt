-- An entry by its fields (01, "Entries"). Assumes nothing.
use Rattle.std.specs.Prelude.{ℕ}
use Rattle.rule.specs.Entries.{Entry}

abbrev pub entry_with : ℕ → ℕ → ℕ → ℕ → Entry
entry_with kind vid port addr = record { kind = kind; vid = vid; port = port; address = addr }

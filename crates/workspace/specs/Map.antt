-- Where things stand in the workspace of 65,536 bytes. Definitions only.
use Rattle.std.specs.Prelude.{ℕ}

-- the 104 expanded keys of PRG (0, 0, .): 18,304 bytes from 0 on; the 57 vectors over all repetitions: 10,944 bytes
abbrev pub at_vectors : ℕ
at_vectors = 18304

-- one tree: 256 leaf seeds (4,096), then Hash_6's input (8,193)
abbrev pub at_tree : ℕ
at_tree = 29248

-- Hash_7's input: its selector, 17 hashes of 32 bytes from at_hashes on, 17 corrections of 12 bytes from at_sent on
abbrev pub at_com1 : ℕ
at_com1 = 41600

abbrev pub at_hashes : ℕ
at_hashes = 41601

abbrev pub at_sent : ℕ
at_sent = 42145

-- Hash_3's input: its selector, α_0 and α_1, 17 times 28 bytes each
abbrev pub at_com2 : ℕ
at_com2 = 42400

abbrev pub at_alpha0 : ℕ
at_alpha0 = 42401

abbrev pub at_alpha1 : ℕ
at_alpha1 = 42877

-- the 17 root seeds of 16 bytes (signing)
abbrev pub at_roots : ℕ
at_roots = 43360

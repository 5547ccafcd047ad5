-- The fields of a signature in document 001's order (algorithm 3, line 12; algorithm 11), each as the part of the bytes that it is: salt 16,
-- com_1 32, com_2 32, 17 result lines of 28, 17 paths of 128, 17 hidden commitments of 32, 17 corrections of 12, nonce 4. Definitions only.
use Rattle.std.specs.Prelude.{cond, List, [], ℕ, ◌*◌, eqb, length}
use Rattle.octets.specs.Lists.{part}
use Rattle.paper.specs.Alpha.{r3}
use Rattle.paper.specs.Scheme.{sig_salt, sig_com1, sig_com2, sig_alpha1, sig_paths, sig_outs, sig_sent, sig_nonce}

-- a field of a signature; of bytes that are not 3484 long, the empty part
unfoldable pub field_of : (List ℕ → List ℕ) → List ℕ → List ℕ
field_of f sig = cond (eqb (length sig) 3484) (f sig) []

abbrev pub salt_in : List ℕ → List ℕ
salt_in = field_of (sig_salt r3)

abbrev pub com1_in : List ℕ → List ℕ
com1_in = field_of (sig_com1 r3)

abbrev pub com2_in : List ℕ → List ℕ
com2_in = field_of (sig_com2 r3)

abbrev pub lines_in : List ℕ → List ℕ
lines_in = field_of (sig_alpha1 r3)

-- paths, hidden commitments and corrections together
abbrev pub openings_in : List ℕ → List ℕ
openings_in = field_of (part 556 2924)

abbrev pub paths_in : List ℕ → List ℕ
paths_in = field_of (sig_paths r3)

abbrev pub hiddens_in : List ℕ → List ℕ
hiddens_in = field_of (sig_outs r3)

abbrev pub corrections_in : List ℕ → List ℕ
corrections_in = field_of (sig_sent r3)

abbrev pub nonce_in : List ℕ → List ℕ
nonce_in = field_of (sig_nonce r3)

-- ---- of repetition e, which is one of 17: past them the part is empty

abbrev pub line_in : ℕ → List ℕ → List ℕ
line_in e sig = part (28 * e) 28 (lines_in sig)

abbrev pub path_in : ℕ → List ℕ → List ℕ
path_in e sig = part (128 * e) 128 (paths_in sig)

abbrev pub hidden_commitment_in : ℕ → List ℕ → List ℕ
hidden_commitment_in e sig = part (32 * e) 32 (hiddens_in sig)

abbrev pub correction_in : ℕ → List ℕ → List ℕ
correction_in e sig = part (12 * e) 12 (corrections_in sig)

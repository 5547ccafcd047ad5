-- What each field is of a signature that Sign made. Assumes nothing.
use mathlib.Core.Path.{◌≡◌, sym, ap, ◌∙◌, subst}
use mathlib.Core.List.{List}
use mathlib.Core.Option.{some}
use Prim.Native.Nat.{ℕ, ◌*◌, ◌<◌}
use lib.ListN.{length}
use Rattle.octets.specs.Lists.{part, joined, bytes_of}
use Rattle.octets.proofs.Part.{part-joined}
use Rattle.paper.specs.Keys.{solution_of}
use Rattle.paper.specs.Commit.{path_at, lscom, sent_at}
use Rattle.paper.specs.Alpha.{r3}
use Rattle.paper.specs.Challenge.{hidden_in}
use Rattle.paper.specs.Scheme.{sign_com1, sign_com2, sign_alpha1, sign_challenge, sign_with, sign_of, sig_salt, sig_com1, sig_com2, sig_alpha1, sig_paths, sig_outs, sig_sent, sig_nonce}
use Rattle.paper.proofs.Keys.{length-solution_of}
use Rattle.paper.proofs.Commit.{length-path_at, length-lscom, length-sent}
use Rattle.paper.proofs.Alpha.{r3-rows}
use Rattle.paper.proofs.Scheme.{parsed}
use Rattle.paper.proofs.Signed.{length-sign_alpha1, hidden-sign-lt}
use Rattle.mqom.specs.Fields.{salt_in, com1_in, com2_in, lines_in, paths_in, hiddens_in, corrections_in, nonce_in, line_in, path_in, hidden_commitment_in, correction_in}
use Rattle.mqom.proofs.Parts.{field-whole}
use Rattle.mqom.proofs.Search.{SignedWith, signed-with}

-- sig is made with nonce n: what it sends is what the signer has
pub record FieldsOf (sk msg salt mseed : List ℕ) (n : ℕ) (sig : List ℕ) : Type 0 where
  pub salt-is : salt_in sig ≡ salt
  pub com1-is : com1_in sig ≡ sign_com1 r3 sk salt mseed
  pub com2-is : com2_in sig ≡ sign_com2 r3 sk salt mseed
  pub lines_are : lines_in sig ≡ joined 17 (sign_alpha1 r3 sk salt mseed)
  pub paths-are : paths_in sig ≡ joined 17 (λ e. path_at mseed salt (solution_of sk) e (hidden_in (sign_challenge r3 sk msg salt mseed n) e))
  pub hiddens-are : hiddens_in sig ≡ joined 17 (λ e. lscom mseed salt (solution_of sk) e (hidden_in (sign_challenge r3 sk msg salt mseed n) e))
  pub corrections-are : corrections_in sig ≡ joined 17 (sent_at 28 mseed salt (solution_of sk))
  pub nonce-is : nonce_in sig ≡ bytes_of 4 n
  pub line-is : (e : ℕ) → e < 17 → line_in e sig ≡ sign_alpha1 r3 sk salt mseed e
  pub path-is : (e : ℕ) → e < 17 → path_in e sig ≡ path_at mseed salt (solution_of sk) e (hidden_in (sign_challenge r3 sk msg salt mseed n) e)
  pub hidden-is : (e : ℕ) → e < 17 → hidden_commitment_in e sig ≡ lscom mseed salt (solution_of sk) e (hidden_in (sign_challenge r3 sk msg salt mseed n) e)
  pub correction-is : (e : ℕ) → e < 17 → correction_in e sig ≡ sent_at 28 mseed salt (solution_of sk) e

module _ (sk msg salt mseed : List ℕ) (hk : length sk ≡ 88) (hs : length salt ≡ 16) (hm : length mseed ≡ 16) where
  hx : length (solution_of sk) ≡ 28
  hx = length-solution_of sk hk

  module _ (n : ℕ) where
    abbrev hidden : ℕ → ℕ
    hidden = hidden_in (sign_challenge r3 sk msg salt mseed n)

    abbrev made : List ℕ
    made = sign_with r3 sk msg salt mseed n

    pub fields-with : FieldsOf sk msg salt mseed n made
    fields-with =
        let p = parsed r3 r3-rows sk msg salt mseed hk hs hm n in
        let lines = field-whole (sig_alpha1 r3) made p.size_is ∙ p.alpha1-is in
        let paths = field-whole (sig_paths r3) made p.size_is ∙ p.paths-is in
        let hiddens = field-whole (sig_outs r3) made p.size_is ∙ p.outs-is in
        let corrections = field-whole (sig_sent r3) made p.size_is ∙ p.sent_is in
        record {
          salt-is = field-whole (sig_salt r3) made p.size_is ∙ p.salt-is;
          com1-is = field-whole (sig_com1 r3) made p.size_is ∙ p.com1-is;
          com2-is = field-whole (sig_com2 r3) made p.size_is ∙ p.com2-is;
          lines_are = lines;
          paths-are = paths;
          hiddens-are = hiddens;
          corrections-are = corrections;
          nonce-is = field-whole (sig_nonce r3) made p.size_is ∙ p.nonce-is;
          line-is = λ e he.
              ap (part (28 * e) 28) lines ∙ part-joined 17 28 (sign_alpha1 r3 sk salt mseed) (λ i hi. length-sign_alpha1 r3 sk msg salt mseed i) e he;
          path-is = λ e he.
              ap (part (128 * e) 128) paths
              ∙ part-joined 17 128 (λ e. path_at mseed salt (solution_of sk) e (hidden e)) (λ i hi. length-path_at mseed salt (solution_of sk) hm hx i (hidden i) hi) e he;
          hidden-is = λ e he.
              ap (part (32 * e) 32) hiddens
              ∙ part-joined 17 32 (λ e. lscom mseed salt (solution_of sk) e (hidden e))
              (λ i hi. length-lscom mseed salt (solution_of sk) hm hx i (hidden i) hi (hidden-sign-lt r3 sk msg salt mseed n i)) e he;
          correction-is = λ e he.
              ap (part (12 * e) 12) corrections
              ∙ part-joined 17 12 (sent_at 28 mseed salt (solution_of sk)) (λ i hi. length-sent mseed salt (solution_of sk) hm hx 28 i) e he;
        }

  -- of a signature that Sign made with so many tries, with the first nonce that passes
  pub fields-signed : (tries : ℕ) (sig : List ℕ) → sign_of r3 sk msg salt mseed tries ≡ some sig
      → (n : ℕ) × SignedWith sk msg salt mseed tries sig n × FieldsOf sk msg salt mseed n sig
  fields-signed tries sig e =
      let w = signed-with sk msg salt mseed tries sig e in
      (w.0, w.1, subst (λ (s : List ℕ). FieldsOf sk msg salt mseed w.0 s) (sym w.1.bytes) (fields-with w.0))

-- A canonical version at the start of a text, by the runs of bytes that it is made of.
use Rattle.deb_version.proofs.Common.{◌≡◌, ◌≢◌, ℕ, ◌+◌, ◌==◌, ◌||◌, true, false, List, ◌∷◌, ◌++◌, take, drop, refl, sym, ap, ◌∙◌, subst, ne_eqb, prefix_len, take-append-drop, IsDigits, parts_of, is_revision_byte, is_upstream_byte, component_text, is_no_revision}
use Rattle.deb_version.proofs.CanonicalPrefix.{IsItself, IsComponent, upstream_bytes, revision_itself, epoch_itself}
use Rattle.deb_version.proofs.VersionBytes.{upstream_with_epoch}
use Rattle.deb_version.proofs.Runs.{run_passes, run_past, run_ends, take_past}

-- the only bytes that a version without epoch may have besides those of its components, and one with an epoch besides
only_hyphen : (b : ℕ) → is_revision_byte b ≡ false → b ≢ 45 → is_upstream_byte false b ≡ false
only_hyphen b other not_hyphen = rw (other, ne_eqb b 45 not_hyphen) refl

only_colon : (b : ℕ) → is_upstream_byte false b ≡ false → b ≢ 58 → is_upstream_byte true b ≡ false
only_colon b other not_colon = ap (λ v. is_revision_byte b || (b == 45) || v) (ne_eqb b 58 not_colon) ∙ other

pub component : (text : List ℕ) (n : ℕ) → n ≡ prefix_len is_revision_byte text → component_text (parts_of (take n text)) ≡ take n text → IsComponent (take n text)
component text n run canonical = record { allowed = run_passes is_revision_byte text n run; canonical = canonical }

module _ (text : List ℕ) (n : ℕ) where
  pub upstream_run : n ≡ prefix_len is_revision_byte text → ((l : List ℕ) → drop n text ≢ 45 ∷ l) → n ≡ prefix_len (is_upstream_byte false) text
  upstream_run = run_ends is_revision_byte (is_upstream_byte false) upstream_bytes 45 only_hyphen text n

  pub version_run : n ≡ prefix_len (is_upstream_byte false) text → ((l : List ℕ) → drop n text ≢ 58 ∷ l) → n ≡ prefix_len (is_upstream_byte true) text
  version_run = run_ends (is_upstream_byte false) (is_upstream_byte true) (upstream_with_epoch false) 58 only_colon text n

  module _ (rest : List ℕ) (m : ℕ) (is : rest ≡ drop (n + 1) text) where
    module _ (here : drop n text ≡ 45 ∷ drop (n + 1) text) where
      pub revision_run : n ≡ prefix_len is_revision_byte text → m ≡ prefix_len is_revision_byte rest → ((l : List ℕ) → drop m rest ≢ 45 ∷ l) → n + 1 + m ≡ prefix_len (is_upstream_byte false) text
      revision_run run behind none =
          run_past is_revision_byte (is_upstream_byte false) upstream_bytes 45 only_hyphen refl text rest n m run here is
          (run_ends is_revision_byte (is_upstream_byte false) upstream_bytes 45 only_hyphen rest m behind none)

      pub revision_behind : IsComponent (take n text) → IsComponent (take m rest) → is_no_revision (parts_of (take m rest)) ≡ false → IsItself (take (n + 1 + m) text)
      revision_behind upstream revision some =
          subst IsItself (sym (take_past text rest n m 45 here is)) (revision_itself (take n text) upstream (take m rest) revision some)

    module _ (here : drop n text ≡ 58 ∷ drop (n + 1) text) where
      pub epoch_run : n ≡ prefix_len (is_upstream_byte false) text → m ≡ prefix_len (is_upstream_byte false) rest → ((l : List ℕ) → drop m rest ≢ 58 ∷ l) → n + 1 + m ≡ prefix_len (is_upstream_byte true) text
      epoch_run run behind none =
          run_past (is_upstream_byte false) (is_upstream_byte true) (upstream_with_epoch false) 58 only_colon refl text rest n m run here is
          (run_ends (is_upstream_byte false) (is_upstream_byte true) (upstream_with_epoch false) 58 only_colon rest m behind none)

      -- the text, and so the epoch, doesn't begin with a zero
      pub epoch_before : IsItself (take n text) → IsDigits (take n text) → ((l : List ℕ) → text ≢ 48 ∷ l) → m ≡ prefix_len (is_upstream_byte false) rest → IsItself (take m rest) → IsItself (take (n + 1 + m) text)
      epoch_before epoch digits none behind itself =
          subst IsItself (sym (take_past text rest n m 58 here is))
          (epoch_itself (take n text) (take m rest) epoch digits (λ l e. none (l ++ drop n text) (sym (take-append-drop n text) ∙ ap (λ k. k ++ drop n text) e))
          itself (run_passes (is_upstream_byte false) rest m behind))

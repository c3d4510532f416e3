-- The readers and writers of a job, before and after it.
use Rattle.std.specs.Prelude.{◌≡◌, ℕ, List, Option, Some, None, codes, refl}

-- a reader before and after a job: its text before, if it is known, and its counts of failed calls
pub record ReaderOfJob : Type 0 where
  pub text : Option (List ℕ)
  pub failures : ℕ
  pub failures_after : ℕ

abbrev pub reader_of : Option (List ℕ) → ℕ → ℕ → ReaderOfJob
reader_of text failures failures_after =
    record { text = text; failures = failures; failures_after = failures_after }

-- a writer before and after a job
pub record WriterOfJob (W : Type 0) : Type 0 where
  pub held : W → Option (List ℕ)
  pub failures : W → ℕ
  pub old : W
  pub new : W

abbrev pub writer_of : {W : Type 0} → (W → Option (List ℕ)) → (W → ℕ) → W → W → WriterOfJob W
writer_of held failures old new =
    record { held = held; failures = failures; old = old; new = new }

-- a reader that has failed once before a job, and once more in it, and a writer that holds its
-- bytes
devices_of_job : (reader_of (Some (codes "a")) 1 2
    ≡ record { text = Some (codes "a"); failures = 1; failures_after = 2 })
    × (reader_of None 0 0 ≡ record { text = None; failures = 0; failures_after = 0 })
    × ((writer_of Some (λ held. 3) (codes "a") (codes "ab")).old ≡ codes "a")
    × ((writer_of Some (λ held. 3) (codes "a") (codes "ab")).new ≡ codes "ab")
devices_of_job = (refl, refl, refl, refl)

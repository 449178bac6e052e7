-- Runs of calls, one after another. Assumes nothing.
use mathlib.Core.Path.{◌≡◌, refl, ◌∙◌}
use mathlib.Core.List.{List, [], ◌∷◌, ◌++◌, append-nil, append_assoc}
use Rattle.runs.specs.Calls.{Outcome, run}

module _ {C X A : Type 0} (entry : C → X → Outcome X A) where
  -- one call
  pub run_one : (c : C) (x : X) → let e = entry c x in run entry (c ∷ []) x ≡ record { after = e.after; bytes = e.bytes; told = e.told }
  unfolding run
  run_one c x = rw (append-nil (entry c x).bytes, append-nil (entry c x).told) refl

  -- calls, and then others
  pub run_append : (cs ds : List C) (x : X) →
      let r = run entry cs x in
      let e = run entry ds r.after in
      run entry (cs ++ ds) x ≡ record { after = e.after; bytes = r.bytes ++ e.bytes; told = r.told ++ e.told }
  unfolding run
  run_append [] ds x = refl
  run_append (c ∷ cs) ds x =
      let u = run_append cs ds (entry c x).after in
      let r = run entry cs (entry c x).after in
      let e = run entry ds r.after in
      rw (u, append_assoc (entry c x).bytes r.bytes e.bytes, append_assoc (entry c x).told r.told e.told) refl

  pub run_snoc : (cs : List C) (c : C) (x : X) →
      let r = run entry cs x in
      let e = entry c r.after in
      run entry (cs ++ (c ∷ [])) x ≡ record { after = e.after; bytes = r.bytes ++ e.bytes; told = r.told ++ e.told }
  run_snoc cs c x = run_append cs (c ∷ []) x ∙ rw (run_one c (run entry cs x).after) refl

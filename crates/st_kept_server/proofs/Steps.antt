-- A step of a server whose changes are kept in groups.
use Rattle.st_lemmas.proofs.Words
use Words.{◌≡◌, ℕ, ◌⊎◌, OnErr, false, List, Option, Some, None, Result, Ok, Err, refl, sym, ap, subst, ◌∙◌, inl, inr, Output, Stamp, StepFault, ServerInput}
use Words.faults
use Words.Server as server
use Words.Server.{ServerNode, Stable, crash}
use Rattle.std.specs.Prelude.{IfErr}
use Rattle.st_durable.specs.Durable.{DurableServer, IsAsked, IsMade, Tells}
use Rattle.st_journal.specs.declared.change.Change.{Change}
use Rattle.st_kept_histories.specs.Kept.{IsRecorded, KeptServer, Loses, MayStep, Refuses, Starves, Steps, holding, stable_now, stopped, with_change}
use Rattle.st_kept_histories.specs.declared.fault.KeptRefusal.{KeptRefusal}
use Rattle.st_kept_histories.specs.declared.fault.KeptRefusal.TheVariants.{Starved}
use Rattle.st_kept_journal.specs.Keeping.{Keeping}
use Rattle.st_server.specs.Steps as servers

-- the server after a step of its node, before its change waits
abbrev pub stepping : KeptServer → DurableServer → ℕ → KeptServer
stepping e d last = record e { server = d; last = last }

module _ (old : KeptServer) (d : DurableServer) (now : Stamp) (input : ServerInput) (may : MayStep old now input) where
  abbrev Node : Result (List Output) StepFault → Type 0
  Node r = servers.Steps old.server.node d.node r (server.node_step old.server.node now input)

  pub has_stepped : (new : KeptServer) (out : List Output) → Node (Ok out) → Tells (stable_now old) d.node.state.stable d.changed → IsAsked input d.changed →
      new ≡ holding (stepping old d now.0) now out → Steps old new now input
  has_stepped new out node told asked e =
      subst (λ (n : KeptServer). Steps old n now input) (sym e)
      (record {
        may = may;
        outputs = out;
        node = node;
        told = told;
        asked_so = asked;
        journal = refl;
        steps = refl;
        moment = refl;
        last = refl;
        stage = refl;
        covered = refl;
      })

  -- a node that runs and ran out of memory doesn't run
  stops : (f : StepFault) → Node (Err f) → d.node.running ≡ false
  unfolding server.node_step
  stops faults.Memory (inl e) = ap (λ (n : ServerNode). n.running) e
  stops faults.Memory (inr e) = ap (λ (n : ServerNode). n.running) e
  stops faults.Crashed e =
      let ran = may.runs_so in
      absurd cc

  pub step_starves : (f : StepFault) → Node (Err f) → Starves old (stepping old d now.0) now input
  step_starves f node = record {
    may = may;
    stopped = stops f node;
    journal = inl refl;
    steps = refl;
    moment = refl;
    last = refl;
    stage = refl;
    covered = refl;
  }

  -- the change of a step waits that ran out of memory
  recorded : (o : Option Change) (j : Keeping) (new : KeptServer) → Tells (stable_now old) d.node.state.stable o → stable_now new ≡ d.node.state.stable →
      j ≡ with_change old.journal now.0 o → new.journal ≡ j → (new.journal ≡ old.journal) ⊎ IsRecorded old new now
  recorded None j new told same is e = inl (e ∙ is)
  recorded (Some x) j new told same is e =
      inr (record { change = x; made = subst (λ (t : Stable). IsMade (stable_now old) t x) (sym same) told; journal = e ∙ is })

  crashed_stable : stable_now (stopped (stepping old d now.0)) ≡ d.node.state.stable
  unfolding crash
  crashed_stable = refl

  crashed : (j : Keeping) → (j ≡ old.journal) ⊎ (j ≡ with_change old.journal now.0 d.changed) → Tells (stable_now old) d.node.state.stable d.changed →
      Starves old (record (stopped (stepping old d now.0)) { journal = j }) now input
  crashed j how told = record {
    may = may;
    stopped = refl;
    journal = by how;
    steps = refl;
    moment = refl;
    last = refl;
    stage = refl;
    covered = refl;
  }
    where
      new : KeptServer
      new = record (stopped (stepping old d now.0)) { journal = j }

      by : (j ≡ old.journal) ⊎ (j ≡ with_change old.journal now.0 d.changed) → (j ≡ old.journal) ⊎ IsRecorded old (record (stopped (stepping old d now.0)) { journal = j }) now
      by (inl e) = inl e
      by (inr e) = recorded d.changed j (record (stopped (stepping old d now.0)) { journal = j }) told crashed_stable e refl

  pub hold_starves : (new : KeptServer) → Tells (stable_now old) d.node.state.stable d.changed → Loses (stepping old d now.0) new now → Starves old new now input
  hold_starves new told (inl e) = subst (λ (n : KeptServer). Starves old n now input) (sym e) (crashed old.journal (inl refl) told)
  hold_starves new told (inr e) = subst (λ (n : KeptServer). Starves old n now input) (sym e) (crashed (with_change old.journal now.0 d.changed) (inr refl) told)

  pub hold_refuses : {A : Type 0} (r : Result A KeptRefusal) (new : KeptServer) → Tells (stable_now old) d.node.state.stable d.changed →
      IfErr r (λ f. f ≡ Starved) → OnErr r (Loses (stepping old d now.0) new now) → IfErr r (Refuses old new now input)
  hold_refuses (Ok x) new told e lost = tt
  hold_refuses (Err f) new told e lost = subst (Refuses old new now input) (sym e) (hold_starves new told lost)

-- After a step of a client each of its leases lasts.
use Rattle.st_lemmas.proofs.Words
use Words.{◌≡◌, Option, Some, None, sym, ◌∙◌, subst, arith, Config, ClientId, Stamp, ClientInput}
use Words.Client as cl
use Words.ClientState.{Association, ClientSession, ClientState, ClientTurn}
use Words.Lists.{Has}
use Rattle.st_laws_refine.specs.Client.Invariants.{Lasts}
use Rattle.st_laws_steps.specs.Lives.Lives.{Pairwise}
use Rattle.st_laws_steps.specs.Client.Losses.{Fit, SessionNext}
use Rattle.st_laws_steps.proofs.Client.Stepping.{Goes, LostOrNot, Phased, pairs_has, phased}
use Rattle.st_laws_reads.proofs.AllClients.Behind.{lasting}

session_lasts : (k : Config) (now : Stamp) (a b : Option ClientSession) → Lasts k.lease now.0 a → SessionNext k now a b → Lasts k.lease now.0 b
session_lasts k now None None e n = tt
session_lasts k now None (Some u) e n = n
session_lasts k now (Some s) None e n = absurd n
session_lasts k now (Some s) (Some u) e n = omega (arith, n, e)

pub step_lasts : (c : ClientId) (s : ClientState) (now : Stamp) (input : ClientInput) → ((a : Association) → Has a s.associations → Fit a) → (b : Association) → Has b (cl.client_step s now input).state.associations → Lasts s.config.lease now.0 b.session
unfolding cl.client_step
step_lasts c s now input f = go _ _ _ (phased c s now input f)
  where
    Last : Association → Type 0
    Last b = Lasts s.config.lease now.0 b.session

    go : (t u v : ClientTurn) → Phased c s now t u v → (b : Association) → Has b v.state.associations → Last b
    go t u v p = on u v u.state.config (sym (p.lost.config ∙ p.received.config)) p.worked.pairs (on t u t.state.config (sym p.lost.config) p.received.pairs going)
      where
        going : (a : Association) → Has a t.state.associations → Last a
        going = pairs_has (LostOrNot s.config now) (λ a. Unit {0}) Last (λ a b r z. lasting s.config now b.session r.going) s.associations t.state.associations p.lost.pairs (λ a i. tt)

        on : (x y : ClientTurn) (k : Config) → k ≡ s.config → Pairwise (Goes k now) x.state.associations y.state.associations →
            ((a : Association) → Has a x.state.associations → Last a) → (b : Association) → Has b y.state.associations → Last b
        on x y k e p h = pairs_has (Goes s.config now) Last Last (λ a b g z. session_lasts s.config now a.session b.session z g.session) x.state.associations y.state.associations (subst (λ z. Pairwise (Goes z now) x.state.associations y.state.associations) e p) h

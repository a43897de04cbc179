-- What the outputs of a client do to the world, and what is observed of them.
use Rattle.st_lemmas.proofs.Words
use Words.{◌≡◌, false, List, [], ◌∷◌, ◌++◌, Option, Some, None, refl, sym, ap, ◌∙◌, append_assoc, ClientId, ServerId, Life, Note, Output, append-nil}
use Words.notes
use Words.outputs
use Words.ClientState.{ClientState}
use Words.World.{World, WorldClient, site_of, numbered}
use Words.Events as ev
use Words.Events.{WorldTurn, client_says, client_says_all, client_notes, present_life}
use Rattle.st_laws_refine.specs.Client.World.{logged, sent, Told}

pub told_one : (c : ClientId) (before : ClientState) (o : Output) (sc : WorldTurn) → Told c (o ∷ []) sc.world (client_says sc c before o).world
unfolding client_says ev.sends ev.submits ev.answers_with client_notes ev.accepts ev.patches ev.loses
told_one c before (outputs.Send m) sc = record { clients = refl; servers = refl; clocks = refl; messages = refl; log = refl }
told_one c before (outputs.Answer op a) sc = record { clients = refl; servers = refl; clocks = refl; messages = sym (append-nil sc.world.net.messages); log = refl }
told_one c before (outputs.Submit n at what) sc = go (site_of sc.world c)
  where
    go : (o : Option WorldClient) → Told c (outputs.Submit n at what ∷ []) sc.world (ev.submits sc c o n at what).world
    go None = record { clients = refl; servers = refl; clocks = refl; messages = sym (append-nil sc.world.net.messages); log = refl }
    go (Some s) = record { clients = refl; servers = refl; clocks = refl; messages = sym (append-nil sc.world.net.messages); log = refl }
told_one c before (outputs.Note n) sc = note n
  where
    note : (n : Note) → Told c (outputs.Note n ∷ []) sc.world (client_notes sc c before n).world
    note (notes.Accepted f p bytes) = record { clients = refl; servers = refl; clocks = refl; messages = sym (append-nil sc.world.net.messages); log = refl }
    note (notes.Patched f p at bytes) = record { clients = refl; servers = refl; clocks = refl; messages = sym (append-nil sc.world.net.messages); log = refl }
    note n = record { clients = refl; servers = refl; clocks = refl; messages = sym (append-nil sc.world.net.messages); log = refl }

pub lives_same : (c : ClientId) (v w : World) → w.clients ≡ v.clients → ◌≡◌ {A = ServerId → Life} (present_life w c) (present_life v c)
lives_same c v w e = λ j s. ev.life_of_site s (numbered (e j) c.0)

sent_both : (os ps : List Output) → sent (os ++ ps) ≡ sent os ++ sent ps
sent_both [] ps = refl
sent_both (outputs.Send m ∷ os) ps = ap (λ x. record { message = m; lost = false } ∷ x) (sent_both os ps)
sent_both (outputs.Submit c a w ∷ os) ps = sent_both os ps
sent_both (outputs.Answer o a ∷ os) ps = sent_both os ps
sent_both (outputs.Note n ∷ os) ps = sent_both os ps

pub told_all : (c : ClientId) (before : ClientState) (os : List Output) (sc : WorldTurn) → Told c os sc.world (client_says_all c before os sc).world
unfolding client_says_all
told_all c before [] sc = record { clients = refl; servers = refl; clocks = refl; messages = sym (append-nil sc.world.net.messages); log = refl }
told_all c before (o ∷ os) sc =
    let u : WorldTurn = client_says sc c before o in
    let p = told_one c before o sc in
    let q = told_all c before os u in
    record {
      clients = q.clients ∙ p.clients;
      servers = q.servers ∙ p.servers;
      clocks = q.clocks ∙ p.clocks;
      messages = q.messages ∙ ap (λ x. x ++ sent os) p.messages ∙ append_assoc sc.world.net.messages (sent (o ∷ [])) (sent os) ∙ ap (λ x. sc.world.net.messages ++ x) (sym (sent_both (o ∷ []) os));
      log = q.log ∙ ap (λ l. logged c l os u.world.log) (lives_same c sc.world u.world p.clients) ∙ ap (λ x. logged c (present_life sc.world c) os x) p.log;
    }

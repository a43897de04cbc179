-- A server's whole step: what it leaves of extents, and what it sends and keeps of them.
use Rattle.st_lemmas.proofs.Words
use Words.{◌≡◌, ℕ, ◌⊎◌, List, [], refl, sym, ap, ◌∙◌, subst, inl, inr, Stamp, ExtentRow, Message, ServerInput}
use Words.Extents as extents
use Words.Extents.{Extents}
use Words.Keys.{server_node}
use Words.Sessions.{is_live_state}
use Words.Server.{ServerState, ServerTurn, Stable, turn, sender, server_step}
use Rattle.st_laws_extents.specs.ExtentReplies.Steps.{ChangedNow, KeptRows, ServedAnew, StepTells, StepsTell, TellsRows, ToldBy, file_of}
use Rattle.st_laws_extents.proofs.ExtentReplies.Rule.{Moved, Ruled, ruled}
use Rattle.st_laws_extents.proofs.ExtentReplies.Walk as walk
use Rattle.st_laws_extents.proofs.ExtentReplies.Walk.{Stands, came_by, demands, grants, steals, suspects, takes}
use Rattle.st_trace.specs.Server.Edits.{Begun, Served}
use Rattle.st_trace.proofs.Server.Walk.{walk_in_two}

module _ (x : ServerState) (now : Stamp) (i : ServerInput) where
  abbrev Before : walk.Fact
  Before to life number ino rows = KeptRows x.sessions (record { 0 = to }) life number ino rows

  abbrev Came : ServerTurn → Type 0
  Came u = walk.Came Before x.stable.extents x now i u

  first : Stands Before x.stable.extents (turn x [])
  first = record { extents = refl; kept = λ c life number ino rows k. k; sent = λ y ino rows i e. absurd i }

  came : Came (server_step x now i)
  came =
      walk_in_two x now i (Stands Before x.stable.extents) Came (steals Before x.stable.extents x now i) (λ t o. inl o) (takes Before x.stable.extents x now i)
      (λ t u e. came_by Before x.stable.extents x now i t u (λ g y. suspects g y x now i t u e))
      (λ t u e. came_by Before x.stable.extents x now i t u (λ g y. grants g y x now i t u e))
      (λ t u e. came_by Before x.stable.extents x now i t u (λ g y. demands g y x now i t u e)) first

  -- what is served after the thefts was served before them
  anew : (t : ServerTurn) (m : Message) → Served x now i t m → ServedAnew x m
  anew t m s =
      let c = s.asked.heard.came in
      let z = s.in_life in
      record {
        client = c.from;
        to = c.there ∙ ap server_node c.begun.id;
        of_epoch = s.asked.epoch ∙ ap (λ (y : Stable). y.epoch.0) c.begun.stable;
        session = z.session;
        is = c.begun.sessions (sender m.header) z.session z.is (ap is_live_state z.state);
        of_life = z.of_life;
        last = z.last;
        reply = z.old;
        state = z.state;
        next = s.next;
      }

  -- when a request is served anew
  module _ (u : ServerTurn) (a : walk.Anew Before x.stable.extents x now i u) where
    abbrev m : Message
    m = a.message

    abbrev after : Extents
    after = a.after.state.stable.extents

    begun : Begun x a.turn
    begun = a.sent.asked.heard.came.begun

    rules : Ruled a.turn m.header m.body a.after a.reply
    rules = ruled now a.turn m.header m.body a.after a.reply a.rule

    stable : a.turn.state.stable.extents ≡ x.stable.extents
    stable = ap (λ (y : Stable). y.extents) begun.stable

    answers : (y : Extents) → y ≡ after → (to life number ino : ℕ) (rows : List ExtentRow) → walk.Right Before m a.reply to life number ino rows →
        ToldBy x i y to life number ino rows
    answers y e to life number ino rows (inl k) = inl k
    answers y e to life number ino rows (inr n) =
        inr (record {
          by = m;
          is = a.sent.asked.heard.came.is;
          served = anew a.turn m a.sent;
          from = n.0;
          of_life = n.1;
          under = n.2;
          tells = subst (λ z. TellsRows x.id z m.body ino rows) (sym e) (subst (λ s. TellsRows s after m.body ino rows) begun.id (rules.tells ino rows n.3));
        })

    changes : (y : Extents) → y ≡ after → (y ≡ x.stable.extents) ⊎ ChangedNow x i y
    changes y e = go rules.moves
      where
        go : (after ≡ a.turn.state.stable.extents) ⊎ Moved a.turn m.header m.body after → (y ≡ x.stable.extents) ⊎ ChangedNow x i y
        go (inl q) = inl (e ∙ q ∙ stable)
        go (inr v) =
            inr (record {
              by = m;
              is = a.sent.asked.heard.came.is;
              served = anew a.turn m a.sent;
              ino = v.ino;
              row = v.row;
              found = begun.rows (sender m.header) v.ino v.row v.found;
              exclusive = v.exclusive;
              asks = v.asks;
              others = λ f p n. ap (λ z. extents.extent_of z f p) e ∙ v.others f p (λ q. n (q ∙ ap (λ s. file_of s v.ino) begun.id))
                  ∙ ap (λ z. extents.extent_of z f p) stable;
            })

    told : Stands (walk.Right Before m a.reply) after u → StepTells x i u
    told s =
        record {
          extents = changes u.state.stable.extents s.extents;
          kept = λ c life number ino rows k. answers u.state.stable.extents s.extents c.0 life number ino rows (s.kept c life number ino rows k);
          sent = λ y ino rows h e. answers u.state.stable.extents s.extents y.header.to y.header.life y.header.number ino rows (s.sent y ino rows h e);
        }

  tells : (u : ServerTurn) → Came u → StepTells x i u
  tells u (inl z) =
      record {
        extents = inl z.extents;
        kept = λ c life number ino rows k. inl (z.kept c life number ino rows k);
        sent = λ y ino rows h e. inl (z.sent y ino rows h e);
      }
  tells u (inr a) = told u a a.stands

pub step_tells : StepsTell
step_tells x now i = tells x now i (server_step x now i) (came x now i)

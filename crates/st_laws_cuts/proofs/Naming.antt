-- Why the names of a server change: its stable part stays, or a request for a name was served.
use Rattle.st_lemmas.proofs.Words
use Words.{◌≡◌, ◌⊎◌, ◌==◌, refl, sym, ap, ◌∙◌, inl, inr, Stamp, AppAnswer, Body, Header, Message, NameOp, ServerInput}
use Words.answers
use Words.bodies as bd
use Words.ops
use Words.serving.{Control}
use Words.Keys.{server_node}
use Words.Names as names
use Words.Names.{Names}
use Words.Sessions.{is_live_state}
use Words.Server as sv
use Words.Server.{ServerState, ServerTurn, Stable, sender, server_step}
use Words.Tables.{cond_true, cond_false}
use Rattle.st_promises.specs.NameAnswers.{changed, said}
use Rattle.st_laws_requests.specs.Cuts.Cuts.{does, does_remove}
use Rattle.st_laws_cuts.specs.ServedRequests.{IsServedBy, NamesBy}
use Rattle.st_trace.specs.Server.Changing.{StableChange, Stays, Changes}
use Rattle.st_trace.specs.Server.Edits.{Served, Ruled, Tells, Acquires, Releases, Allocates, Cuts, Creates, MakesDir, Renames, RemovesDir, RemovesFile}
use Rattle.st_trace.proofs.Server.StableParts.{step_stable}

-- a request for a name did this
abbrev Did : Names → Body → Names → Type 0
Did n b new = (op : NameOp) × (b ≡ bd.Name op) × ((answer : AppAnswer) × (does n op ≡ said new answer))

rule_names : (now : Stamp) (t : ServerTurn) (h : Header) (b : Body) (u : ServerTurn) (r : Body) → Ruled now t h b u r →
    (u.state.stable.names ≡ t.state.stable.names) ⊎ Did t.state.stable.names b u.state.stable.names
unfolding sv.cut_pages sv.cut_whole
rule_names now t h b u r (Tells _ _ x) = inl refl
rule_names now t h b u r (Acquires ino mode a f k g) = inl refl
rule_names now t h b u r (Releases ino g to x e f) = inl refl
rule_names now t h b u r (Allocates ino g p count x f q e) = inl refl
rule_names now t h b u r (Cuts ino g p f q) = inl refl
rule_names now t h b u r (Creates dir x d e) = inr (ops.Create dir x, refl, (answers.Named d.ino, ap (changed t.state.stable.names) e))
rule_names now t h b u r (MakesDir dir x d e) = inr (ops.Mkdir dir x, refl, (answers.Named d.ino, ap (changed t.state.stable.names) e))
rule_names now t h b u r (Renames dir x dir2 x2 d e) = inr (ops.Rename dir x dir2 x2, refl, (answers.Named d.ino, ap (changed t.state.stable.names) e))
rule_names now t h b u r (RemovesDir dir x g ino d l f z e s) =
    inr (
      ops.Remove dir x g,
      refl,
      (
        answers.Named d.ino,
        ap (does_remove t.state.stable.names dir x g) l ∙ cond_false (names.is_file t.state.stable.names ino) _ _ f
            ∙ cond_true (g.0 == 0) _ _ z ∙ ap (changed t.state.stable.names) e,
      ),
    )
rule_names now t h b u r (RemovesFile dir x g ino d l f q e s) =
    inr (
      ops.Remove dir x g,
      refl,
      (
        answers.Named d.ino,
        ap (does_remove t.state.stable.names dir x g) l ∙ cond_true (names.is_file t.state.stable.names ino) _ _ f
            ∙ ap (changed t.state.stable.names) e,
      ),
    )

-- what is served after the thefts was served before them
served_by : (n : ServerState) (now : Stamp) (i : ServerInput) (t : ServerTurn) (m : Message) → Served n now i t m → IsServedBy n m
served_by n now i t m s =
    let c = s.asked.heard.came in
    let y = s.in_life in
    record {
      client = c.from;
      to = c.there ∙ ap server_node c.begun.id;
      of_epoch = s.asked.epoch ∙ ap (λ (x : Stable). x.epoch.0) c.begun.stable;
      session = y.session;
      is = c.begun.sessions (sender m.header) y.session y.is (ap is_live_state y.state);
      of_life = y.of_life;
      last = y.last;
      reply = y.old;
      state = y.state;
      next = s.next;
    }

-- The whole step.
pub step_names : (x : ServerState) (now : Stamp) (i : ServerInput) →
    ((server_step x now i).state.stable.names ≡ x.stable.names) ⊎ ((m : Message) × (i ≡ Control m) × NamesBy x m (server_step x now i).state.stable.names)
step_names x now i = go _ (step_stable x now i)
  where
    After : Names → Type 0
    After n = (n ≡ x.stable.names) ⊎ ((m : Message) × (i ≡ Control m) × NamesBy x m n)

    by : (m : Message) (t u : ServerTurn) → Served x now i t m →
        (u.state.stable.names ≡ t.state.stable.names) ⊎ Did t.state.stable.names m.body u.state.stable.names → After u.state.stable.names
    by m t u s (inl p) = inl (p ∙ ap (λ (y : Stable). y.names) s.asked.heard.came.begun.stable)
    by m t u s (inr (op, e, (answer, did))) =
        inr (
          m,
          s.asked.heard.came.is,
          record {
            served = served_by x now i t m s;
            op = op;
            body = e;
            answer = answer;
            did = ap (λ (y : Stable). does y.names op) (sym s.asked.heard.came.begun.stable) ∙ did;
          },
        )

    go : (y : Stable) → StableChange x now i y → After y.names
    go y Stays = inl refl
    go y (Changes m t u b s r) = by m t u s (rule_names now t m.header m.body u b r)

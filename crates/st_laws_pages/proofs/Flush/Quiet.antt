-- The losses of a client's step: what they say.
use Rattle.st_lemmas.proofs.Words
use Words.{◌≡◌, ℕ, Bool, true, false, List, [], ◌∷◌, ◌++◌, Option, Some, None, refl, ap, ◌∙◌, if◌then◌else◌, Stamp, AppAnswer, Ask, Output, Operation}
use Words.{append_assoc}
use Words.answers
use Words.asks
use Words.notes
use Words.outputs
use Words.Client as cl
use Words.ClientPages as pages
use Words.ClientState as state
use Words.ClientState.{Association, ClientState, ClientSession, ClientTurn, Turn, client_turn, enter, leave, at_these, at_each, with_associations, is_sent}
use Words.Lengths.{nothing_after}
use Rattle.st_laws_pages.proofs.Flush.Adding.{AllStill}

-- The losses say answers and the losses, and submit nothing.
record IsQuiet (t u : Turn) : Type 0 where
  pub more : List Output
  pub out : u.out ≡ t.out ++ more
  pub still : AllStill more
  pub next : u.next_command ≡ t.next_command

quiet_none : (t : Turn) → IsQuiet t t
quiet_none t = record { more = []; out = nothing_after t.out; still = record {}; next = refl }

still_both : (os ps : List Output) → AllStill os → AllStill ps → AllStill (os ++ ps)
still_both [] ps a b = b
still_both (o ∷ os) ps a b = record { one = a.one; rest = still_both os ps a.rest b }

quiet_then : (t u v : Turn) → IsQuiet t u → IsQuiet u v → IsQuiet t v
quiet_then t u v a b = record { more = a.more ++ b.more; out = b.out ∙ ap (λ z. z ++ b.more) a.out ∙ append_assoc t.out a.more b.more; still = still_both a.more b.more a.still b.still; next = b.next ∙ a.next }

quiet_answer : (t : Turn) (op : ℕ) (a : AppAnswer) → IsQuiet t (state.answered t op a)
quiet_answer t op a = record { more = outputs.Answer op a ∷ []; out = refl; still = record { one = tt; rest = record {} }; next = refl }

quiet_told : (t : Turn) (op ino : ℕ) → IsQuiet t (cl.tell_lost t op ino)
unfolding cl.tell_lost
quiet_told t op ino = record { more = _ ∷ []; out = refl; still = record { one = tt; rest = record {} }; next = refl }

end_quiet : (t : Turn) (s : ClientSession) (o : Operation) → IsQuiet t (cl.end_operation t s o)
unfolding cl.end_operation cl.end_unsent cl.end_sync
end_quiet t s o = go (is_sent o)
  where
    lost : (ino : ℕ) (b : Bool) → IsQuiet t (if b then cl.tell_lost t o.op ino else state.answered t o.op answers.Quiesced)
    lost ino true = quiet_told t o.op ino
    lost ino false = quiet_answer t o.op answers.Quiesced

    unsent : (a : Ask) → IsQuiet t (cl.end_unsent t o a)
    unsent (asks.Sync f) = lost f.ino (pages.has_lost t.here.lost f.ino)
    unsent a = quiet_answer t o.op answers.Quiesced

    go : (b : Bool) → IsQuiet t (if b then state.answered t o.op (answers.Uncertain s.epoch.0 0) else cl.end_unsent t o o.ask)
    go true = quiet_answer t o.op _
    go false = unsent o.ask

each_quiet : (s : ClientSession) (os : List Operation) (t : Turn) → IsQuiet t (cl.end_each s os t)
unfolding cl.end_each
each_quiet s [] t = quiet_none t
each_quiet s (o ∷ os) t = quiet_then t (cl.end_operation t s o) _ (end_quiet t s o) (each_quiet s os (cl.end_operation t s o))

lose_quiet : (now : Stamp) (t : Turn) → IsQuiet t (cl.lose now t)
unfolding cl.lose cl.lose_by cl.lose_over cl.lose_session cl.end_operations
lose_quiet now t = go t.here.session
  where
    session : (s : ClientSession) → IsQuiet t (cl.lose_session t s)
    session s =
        let begun : Turn = state.with_operations (Rattle.std.specs.Prelude.filter (λ o. Rattle.std.specs.Prelude.not (state.is_of t.here.server o)) t.operations) (cl.with_lost_pages t.here.store (state.note t (notes.Lost t.here.server t.here.life))) in
        let e : IsQuiet begun _ = each_quiet s (Rattle.std.specs.Prelude.filter (state.is_of t.here.server) t.operations) begun in
        record {
          more = outputs.Note (notes.Lost t.here.server t.here.life) ∷ e.more;
          out = e.out ∙ append_assoc t.out (outputs.Note (notes.Lost t.here.server t.here.life) ∷ []) e.more;
          still = record { one = tt; rest = e.still };
          next = e.next;
        }

    over : (s : ClientSession) (b : Bool) → IsQuiet t (if b then cl.lose_session t s else t)
    over s true = session s
    over s false = quiet_none t

    go : (x : Option ClientSession) → IsQuiet t (cl.lose_by t now x)
    go None = quiet_none t
    go (Some s) = over s (cl.is_over t s now)

pub record AllQuiet (t u : ClientTurn) : Type 0 where
  pub more : List Output
  pub out : u.out ≡ t.out ++ more
  pub still : AllStill more
  pub next : u.state.next_command ≡ t.state.next_command

these_quiet : (now : Stamp) (al : List Association) (t : ClientTurn) → AllQuiet t (at_these (cl.lose now) al t)
unfolding at_these
these_quiet now [] t = record { more = []; out = nothing_after t.out; still = record {}; next = refl }
these_quiet now (a ∷ al) t =
    let e = lose_quiet now (enter t a) in
    let r = these_quiet now al (leave t (cl.lose now (enter t a))) in
    record {
      more = e.more ++ r.more;
      out = r.out ∙ ap (λ z. z ++ r.more) e.out ∙ append_assoc t.out e.more r.more;
      still = still_both e.more r.more e.still r.still;
      next = r.next ∙ e.next;
    }

pub losses_quiet : (now : Stamp) (s : ClientState) → AllQuiet (client_turn s []) (cl.losses (client_turn s []) now)
unfolding cl.losses at_each
losses_quiet now s = let r = these_quiet now s.associations (with_associations [] (client_turn s [])) in record { more = r.more; out = r.out; still = r.still; next = r.next }

-- The outstanding request is sent once more; and the page of a dirty page that is found.
use Rattle.st_lemmas.proofs.Words
use Words.{◌≡◌, ℕ, Bool, true, false, List, sym, ap, ◌∙◌, Option, Some, None, find, if◌then◌else◌, PageNo, Stamp, Header, Message, Request, DirtyPage}
use Words.Tables.{found_at}
use Words.outputs
use Words.Keys.{server_node}
use Words.ClientPages.{is_dirty_of}
use Words.ClientPasses as passes
use Words.ClientState.{Turn, header_of, is_again_due, say, send, with_session}
use Rattle.st_client_session.specs.Sessions.{Again, Parties, ServerSession}
use Rattle.st_lemmas.proofs.Contents.{one_place}
use Rattle.st_client_association.specs.Turns.{SendsAgain, parties_of}

pub sends_again : (t : Turn) (s new : ServerSession) (m : Option Message) (now : Stamp) (o : Option Request) → s.of ≡ parties_of t.id t.here.server t.here.life t.config →
    Again s new m now o → SendsAgain (with_session s.session t) (with_session new.session t) m now o
unfolding passes.ask_again send
sends_again t s new None now None p e = ap (λ (x : ServerSession). with_session x.session t) (sym e)
sends_again t s new (Some m) now None p e = elim e [ ]
sends_again t s new None now (Some q) p e =
    let early : is_again_due t.config.retry now q ≡ false = ap (λ (x : Parties). is_again_due x.config.retry now q) (sym p) ∙ e.early in
    ap (λ (b : Bool). if b then passes.ask_again (with_session s.session t) s.session now q else with_session s.session t) early
    ∙ ap (λ (x : ServerSession). with_session x.session t) (sym e.same)
sends_again t s new (Some m) now (Some q) p e =
    let due : is_again_due t.config.retry now q ≡ true = ap (λ (x : Parties). is_again_due x.config.retry now q) (sym p) ∙ e.due in
    let told : m ≡ record { header = header_of t s.session.epoch.0 q.number now.0; body = q.body } =
    e.told
    ∙ ap
    (λ (x : Parties).
    message_of
    (record { from = x.client.0; to = server_node x.server; life = x.life.0; epoch = s.session.epoch.0; number = q.number; stamp = now.0 })) p in
    ap (λ (b : Bool). if b then passes.ask_again (with_session s.session t) s.session now q else with_session s.session t) due
    ∙ (λ i. say (with_session (sym e.left i).session t) (outputs.Send (sym told i)))
  where
    message_of : Header → Message
    message_of h = record { header = h; body = q.body }

-- the place of a dirty page that is found
pub place_found : (dirty : List DirtyPage) (ino : ℕ) (p : PageNo) (d : DirtyPage) → find (is_dirty_of ino p) dirty ≡ Some d → (d.ino ≡ ino) × (d.page ≡ p)
place_found dirty ino p d e = one_place d.ino d.page ino p (found_at (is_dirty_of ino p) dirty d e).0

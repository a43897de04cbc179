-- What each change by a pass of a client leaves of the reads that it submits, and how changes are put together.
use Rattle.st_lemmas.proofs.Words
use Words.{◌≡◌, ℕ, ◌+◌, ◌≤◌, ◌<◌, ◌⊎◌, Bool, true, false, ◌&&◌, ◌==◌, not, List, [], ◌∷◌, ◌++◌, Some, None, refl, sym, ap, ◌∙◌, subst, inl, inr, arith, nat_le}
use Words.{eqb-true, BlockAt, Command, FileId, PageNo, Stamp, Note, Output, IoKind, KnownExtent, MappedBlock, Operation, PageCommand, DirtyPage, append_assoc}
use Words.commands
use Words.outputs
use Words.io
use Words.ClientPages as pages
use Words.ClientPasses as passes
use Words.ClientState.{ClientSession, Turn, is_serving, note, say, with_store}
use Words.Lists.{Has}
use Words.Tables.{has_append, has_filter}
use Words.Lengths.{nothing_after}
use Rattle.st_lemmas.proofs.Contents.{find_stays, one_place}
use Rattle.st_laws_steps.specs.Client.Client as client
use Rattle.st_laws_steps.specs.Client.Client.{ChangesPage}
use Rattle.st_laws_steps.proofs.Client.Passing.{IsPassing, Part}
use Rattle.st_laws_steps.proofs.Client.Only.{Only, Ends, Goes}
use Rattle.st_laws_extents.specs.Samples.SubmittedReads.{Begun, GoesTo, KnownTo, ReadsSent, StaysKnown, SubmitsNone}
use Rattle.st_laws_extents.proofs.Samples.Calm.{none_said, plain_none}
use Rattle.st_laws_extents.proofs.DiskReads.Rules.{not_idle}

abbrev Changes : Stamp → Turn → Turn → Type 0
Changes now t u = ReadsSent now t u

abbrev Change : Stamp → Turn → Turn → Type 0
Change now t u = ReadsSent now t u

-- a change that says no read, and leaves reads and what is known of their pages
kept : (now : Stamp) (t u : Turn) (more : List Output) → u.out ≡ t.out ++ more → u.next_command ≡ t.next_command → SubmitsNone more →
    ((pc : PageCommand) → Has pc u.here.store.commands → Has pc t.here.store.commands × StaysKnown t.here.store u.here.store pc) → Changes now t u
kept now t u more o n f r =
    record { low = (let z = n in omega (arith, z)); more = more; out = o; fresh = λ k at to i. absurd (f k at (commands.Read to) i); reads = λ pc i k. inl (r pc i) }

-- one that leaves all of the store but its pages
plain : (now : Stamp) (t u : Turn) (more : List Output) → u.out ≡ t.out ++ more → u.next_command ≡ t.next_command → SubmitsNone more → u.here.store.commands ≡ t.here.store.commands → u.here.store.extents ≡ t.here.store.extents → Changes now t u
plain now t u more o n f c x = kept now t u more o n f (λ pc i. (subst (Has pc) c i, λ m e. ap (λ xs. pages.mapping_of xs pc.ino pc.page) x ∙ e))

still : {now : Stamp} (t : Turn) → Changes now t t
still {now} t = plain now t t [] (nothing_after t.out) refl none_said refl refl

pub both_of : (now : Stamp) (t u v : Turn) → Changes now t u → Changes now u v → Changes now t v
both_of now t u v a b =
    record {
      low = let x = a.low in let y = b.low in omega (arith, x, y);
      more = a.more ++ b.more;
      out = b.out ∙ ap (λ os. os ++ b.more) a.out ∙ append_assoc t.out a.more b.more;
      fresh = λ n at to i. said n at to (has_append a.more b.more (outputs.Submit n at (commands.Read to)) i);
      reads = λ pc i k. later pc (b.reads pc i k) k;
    }
  where
    up : (n : ℕ) → t.next_command ≤ n → n < v.next_command → (t.next_command ≤ n) × (n < v.next_command)
    up n l h = (l, h)

    said : (n : ℕ) (at to : BlockAt) → Has (outputs.Submit n at (commands.Read to)) a.more ⊎ Has (outputs.Submit n at (commands.Read to)) b.more → (t.next_command ≤ n) × (n < v.next_command)
    said n at to (inl i) = let z = a.fresh n at to i in up n z.0 (let h = z.1 in let y = b.low in omega (arith, h, y))
    said n at to (inr i) = let z = b.fresh n at to i in up n (let l = z.0 in let y = a.low in omega (arith, l, y)) z.1

    to_both : (pc : PageCommand) → GoesTo v.here.store pc a.more → GoesTo v.here.store pc b.more → GoesTo v.here.store pc (a.more ++ b.more)
    to_both pc f g at to i = go (has_append a.more b.more (outputs.Submit pc.number at (commands.Read to)) i)
      where
        go : Has (outputs.Submit pc.number at (commands.Read to)) a.more ⊎ Has (outputs.Submit pc.number at (commands.Read to)) b.more → KnownTo v.here.store pc to
        go (inl j) = f at to j
        go (inr j) = g at to j

    earlier : (pc : PageCommand) → StaysKnown u.here.store v.here.store pc → (Has pc t.here.store.commands × StaysKnown t.here.store u.here.store pc) ⊎ Begun t u a.more pc →
        (Has pc t.here.store.commands × StaysKnown t.here.store v.here.store pc) ⊎ Begun t v (a.more ++ b.more) pc
    earlier pc q (inl h) = inl (h.0, λ m e. q m (h.1 m e))
    earlier pc q (inr h) =
        inr (
        record {
          low = h.low;
          high = (let x = h.high in let y = b.low in omega (arith, x, y));
          to = to_both pc (λ at to i. let z = h.to at to i in record { mapping = z.mapping; is = q z.mapping z.is; at = z.at })
              (λ at to i. let z = (b.fresh pc.number at to i).0 in let x = h.high in absurd (omega (arith, z, x)));
        }
        )

    later : (pc : PageCommand) → (Has pc u.here.store.commands × StaysKnown u.here.store v.here.store pc) ⊎ Begun u v b.more pc → pc.kind ≡ io.Read →
        (Has pc t.here.store.commands × StaysKnown t.here.store v.here.store pc) ⊎ Begun t v (a.more ++ b.more) pc
    later pc (inl h) k = earlier pc h.1 (a.reads pc h.0 k)
    later pc (inr h) k =
        inr (
        record {
          low = (let x = a.low in let l = h.low in omega (arith, l, x));
          high = h.high;
          to = to_both pc (λ at to i. let z = (a.fresh pc.number at to i).1 in let l = h.low in absurd (omega (arith, z, l))) h.to;
        }
        )

forget_mapped : (ino : ℕ) (p : PageNo) (j : ℕ) (q : PageNo) (xs : List KnownExtent) → (j ≡ ino → ⊥) → pages.mapping_of (pages.known_before ino p xs) j q ≡ pages.mapping_of xs j q
forget_mapped ino p j q xs n = ap pages.mapping_at (find_stays (pages.is_known_of j q) (pages.is_known_behind ino p) apart xs)
  where
    apart : (x : KnownExtent) → pages.is_known_of j q x ≡ true → pages.is_known_behind ino p x ≡ false
    apart x z = go (x.ino == ino) refl
      where
        go : (b : Bool) → (x.ino == ino) ≡ b → (b && nat_le p.0 x.page.0) ≡ false
        go true b = absurd (n (sym (one_place x.ino x.page j q z).0 ∙ eqb-true x.ino ino b))
        go false b = refl

after_forgets : {now : Stamp} (t : Turn) (ino : ℕ) (p : PageNo) → pages.is_idle t.here.store ino ≡ true → Change now t (with_store (pages.forget_from t.here.store ino p) t)
unfolding pages.forget_from pages.drop_from
after_forgets {now} t ino p idle =
    kept now t (with_store (pages.forget_from t.here.store ino p) t) [] (nothing_after t.out) refl none_said
    (λ pc i. (i, λ m e. forget_mapped ino p pc.ino pc.page t.here.store.extents (λ q. not_idle t.here.store pc ino i q idle) ∙ e))

after_writes : {now : Stamp} (t : Turn) (s : ClientSession) (f : FileId) (p : PageNo) (bytes : List ℕ) (n : Note) → t.here.session ≡ Some s → is_serving t.config s now ≡ true → f.server ≡ t.here.server → pages.is_mapped t.here.store.extents f.ino p ≡ true → ChangesPage f p n →
    Change now t (passes.with_pages_changed (pages.written t.here.store.pages f.ino p bytes) f.ino p (note t n))
unfolding pages.written pages.forget_read
after_writes {now} t s f p bytes n se sv own m h =
    kept now t (passes.with_pages_changed (pages.written t.here.store.pages f.ino p bytes) f.ino p (note t n)) (outputs.Note n ∷ []) refl refl noted
    (λ pc i. ((has_filter (λ c. not (pages.is_read_of f.ino p c)) t.here.store.commands pc i).0, λ m e. e))
  where
    noted : SubmitsNone (outputs.Note n ∷ [])
    noted k at what (inr i) = absurd i
    noted k at what (inl e) = no e
      where
        no : outputs.Submit k at what ≡ outputs.Note n → ⊥
        no z = cc

-- a command that begins
begun : (now : Stamp) (t : Turn) (ino : ℕ) (p : PageNo) (kind : IoKind) (at : BlockAt) (what : Command) (u : Turn) → u.out ≡ t.out ++ outputs.Submit t.next_command at what ∷ [] → u.next_command ≡ t.next_command + 1 →
    u.here.store.commands ≡ t.here.store.commands ++ pages.page_command t.next_command ino p kind ∷ [] → u.here.store.extents ≡ t.here.store.extents →
    (kind ≡ io.Read → (to : BlockAt) → commands.Read to ≡ what → KnownTo u.here.store (pages.page_command t.next_command ino p kind) to) → Change now t u
begun now t ino p kind at what u out next cs xs known =
    record {
      low = (let z = next in omega (arith, z));
      more = os;
      out = out;
      fresh = λ n b to i. numbers n b (commands.Read to) i;
      reads = λ pc i k. go pc k (has_append t.here.store.commands (pages.page_command t.next_command ino p kind ∷ []) pc (subst (Has pc) cs i));
    }
  where
    os : List Output
    os = outputs.Submit t.next_command at what ∷ []

    number_is : (n : ℕ) (b : BlockAt) (w : Command) → outputs.Submit n b w ≡ outputs.Submit t.next_command at what → n ≡ t.next_command
    number_is n b w e = cc

    what_is : (n : ℕ) (b : BlockAt) (w : Command) → outputs.Submit n b w ≡ outputs.Submit t.next_command at what → w ≡ what
    what_is n b w e = cc

    within : (n : ℕ) → t.next_command ≤ n → n < u.next_command → (t.next_command ≤ n) × (n < u.next_command)
    within n l h = (l, h)

    numbers : (n : ℕ) (b : BlockAt) (w : Command) → Has (outputs.Submit n b w) os → (t.next_command ≤ n) × (n < u.next_command)
    numbers n b w (inr i) = absurd i
    numbers n b w (inl e) = let q = number_is n b w e in within n (omega (arith, q)) (let z = next in omega (arith, q, z))

    to_known : (pc : PageCommand) → pc ≡ pages.page_command t.next_command ino p kind → pc.kind ≡ io.Read → GoesTo u.here.store pc os
    to_known pc q k b to (inr i) = absurd i
    to_known pc q k b to (inl e) = subst (λ (c : PageCommand). KnownTo u.here.store c to) (sym q) (known (sym (ap (λ (c : PageCommand). c.kind) q) ∙ k) to (what_is pc.number b (commands.Read to) e))

    go : (pc : PageCommand) → pc.kind ≡ io.Read → Has pc t.here.store.commands ⊎ Has pc (pages.page_command t.next_command ino p kind ∷ []) → (Has pc t.here.store.commands × StaysKnown t.here.store u.here.store pc) ⊎ Begun t u os pc
    go pc k (inl i) = inl (i, λ m e. ap (λ x. pages.mapping_of x pc.ino pc.page) xs ∙ e)
    go pc k (inr (inr i)) = absurd i
    go pc k (inr (inl e)) =
        let q : pc.number ≡ t.next_command = ap (λ (c : PageCommand). c.number) e in
        inr (record { low = omega (arith, q); high = (let z = next in omega (arith, q, z)); to = to_known pc e k })

after_reads : {now : Stamp} (t : Turn) (ino : ℕ) (p : PageNo) (m : MappedBlock) → pages.mapping_of t.here.store.extents ino p ≡ Some m → pages.dirty_of t.here.store.pages ino p ≡ None → Change now t (passes.submit_read t ino p m)
unfolding passes.submit_read passes.submit_command pages.begin_command
after_reads {now} t ino p m e d =
    begun now t ino p io.Read m.at (commands.Read m.at) (passes.submit_read t ino p m) refl refl refl refl (λ k to q. record { mapping = m; is = e; at = sym (to_is to q) })
  where
    to_is : (to : BlockAt) → commands.Read to ≡ commands.Read m.at → to ≡ m.at
    to_is to q = cc

after_submits : {now : Stamp} (t : Turn) (s : ClientSession) (ino : ℕ) (p : PageNo) (d : DirtyPage) (m : MappedBlock) → t.here.session ≡ Some s → pages.dirty_of t.here.store.pages ino p ≡ Some d → pages.mapping_of t.here.store.extents d.ino d.page ≡ Some m →
    pages.is_being_written t.here.store.commands d.ino d.page ≡ false → Change now t (passes.submit_write t d m)
unfolding passes.submit_write passes.submit_command pages.begin_command
after_submits {now} t s ino p d m se e i w =
    begun now t d.ino d.page (io.Write d.version) m.at (commands.Write m.at (record { file = passes.file t d.ino; page = d.page; birth = m.birth }) d.bytes) (passes.submit_write t d m) refl refl refl refl (λ k to q. absurd (no k))
  where
    no : io.Write d.version ≡ io.Read → ⊥
    no z = cc

-- Each change of a pass, and such changes.
change_sent : (syncs : List Operation) (asks : Part) (now : Stamp) (t u : Turn) (c : client.Change now t u) → IsPassing syncs asks now t u c → ReadsSent now t u
change_sent syncs asks now t _ (client.Says _ o p) q = plain now t (say t o) (o ∷ []) refl refl (plain_none o p) refl refl
change_sent syncs asks now t _ (client.Operates _ os) q = plain now t _ [] (nothing_after t.out) refl none_said refl refl
change_sent syncs asks now t _ (client.Answers _ os ops a) q = absurd q
change_sent syncs asks now t _ (client.Greets _ g) q = plain now t _ [] (nothing_after t.out) refl none_said refl refl
change_sent syncs asks now t _ (client.TellsLost _ lost) q = absurd q
change_sent syncs asks now t _ (client.Begins _ s a b c) q = absurd q
change_sent syncs asks now t _ (client.Follows _ s u e g) q = plain now t _ [] (nothing_after t.out) refl none_said refl refl
change_sent syncs asks now t _ (client.Learns _ e a b) q = absurd q
change_sent syncs asks now t _ (client.Forgets _ ino p i) q = after_forgets {now = now} t ino p i
change_sent syncs asks now t _ (client.Caches _ clean) q = plain now t _ [] (nothing_after t.out) refl none_said refl refl
change_sent syncs asks now t _ (client.Writes _ s f p bytes n se sv own m h) q = after_writes {now = now} t s f p bytes n se sv own m h
change_sent syncs asks now t _ (client.Reads _ ino p m i clean) q = after_reads {now = now} t ino p m i clean
change_sent syncs asks now t _ (client.Submits _ s ino p d m se e i w) q = after_submits {now = now} t s ino p d m se e i w

pub changes_sent : (syncs : List Operation) (asks : Part) (now : Stamp) (t u : Turn) → Only (IsPassing syncs asks) now t u → ReadsSent now t u
changes_sent syncs asks now t _ (Ends _) = still {now = now} t
changes_sent syncs asks now t v (Goes _ u _ c q r) = both_of now t u v (change_sent syncs asks now t u c q) (changes_sent syncs asks now u v r)

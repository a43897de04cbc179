-- What holds of the disk commands, through what a client says, effects, reports and drops.
use Rattle.st_lemmas.proofs.Words
use Words.{◌≡◌, ◌≢◌, ℕ, ◌+◌, ◌≤◌, ◌<◌, ◌⊎◌, Bool, true, false, List, [], ◌∷◌, ◌++◌, Option, Some, None, refl, sym, ap, ◌∙◌, subst, inl, inr, arith}
use Words.{if◌then◌else◌, length, option_map, set, slice_get, suc, zero, BlockAt, Command, Tag, ClientId, FileId, PageNo, Note, Output, DiskCommand, Cause}
use Words.{LogEntry, LogOwner, Carried, IssuedCommand, LeaseLife}
use Words.commands
use Words.notes
use Words.outputs
use Words.ClientState.{ClientState}
use Words.Disks as disks
use Words.Events as ev
use Words.Events.{WorldTurn, client_notes, client_says, client_says_all, latest, latest_at, latest_from}
use Words.FlatLog as log
use Words.FlatLog.{entry_at}
use Words.World.{WorldClient, numbered, site_of}
use Words.Numbers.{get_below, get_more, length_more, set_length}
use Words.Lookups.{some_is}
use Rattle.st_lemmas.proofs.Marks.{of_entry, owners_drop, owners_harden}
use Rattle.st_laws_pages.specs.Disks.Folds.{DoneUpto, owner_at}
use Rattle.st_laws_pages.proofs.Disks.Folds.{done_drop, done_harden, done_last, harden_done}
use Rattle.st_laws_pages.proofs.Disks.Law.{length_same, owner_same}
use Rattle.st_laws_pages.proofs.Disks.World.{at_set}
use Rattle.st_laws_pages.specs.Causes.Invariants.{CarriedDone, Carries, CommandsStand}

-- the latest entry is an entry of the log, or 0
latest_low : (n before : ℕ) (c : ClientId) (f : FileId) (p : PageNo) (es : List LogEntry) → before < n → latest_from n before c f p es < n + length es
unfolding latest_from latest_at
latest_low n before c f p [] h = omega (arith, h)
latest_low n before c f p (e ∷ es) h = let z = latest_low (n + 1) (latest_at c f p n before e) c f p es (low (ev.is_entry_of c f p e)) in omega (arith, z)
  where
    low : (b : Bool) → (if b then n else before) < n + 1
    low true = omega arith
    low false = omega (arith, h)

pub latest_high : (c : ClientId) (f : FileId) (p : PageNo) (es : List LogEntry) → latest es c f p ≤ length es
unfolding latest
latest_high c f p es = let z = latest_low 1 0 c f p es (omega arith) in omega (arith, z)

-- Another log: as long at least, with the same owners up to its length, and no more pending of them.
record Longer (es fs : List LogEntry) : Type 0 where
  high : length es ≤ length fs
  owners : (i : ℕ) (o : LogOwner) → i ≤ length es → owner_at fs i ≡ Some o → owner_at es i ≡ Some o
  done : (i : ℕ) (o : LogOwner) → i ≤ length es → DoneUpto 1 i o es → DoneUpto 1 i o fs

longer_log : (es fs : List LogEntry) (cs : List IssuedCommand) (ds : List DiskCommand) → Longer es fs → CommandsStand es cs ds → CommandsStand fs cs ds
longer_log es fs cs ds l h =
    record {
      counts = h.counts;
      reads = h.reads;
      writes = λ k x d at tag bytes i j w. let z = h.writes k x d at tag bytes i j w in record { carried = z.carried; is = z.is; low = let a = z.low in let b = l.high in omega (arith, a, b) };
      done = λ k x d at tag bytes i j w f y o e q. done x y o e q (h.writes k x d at tag bytes i j w) (h.done k x d at tag bytes i j w f);
    }
  where
    done : (x : IssuedCommand) (y : Carried) (o : LogOwner) → x.carries ≡ Some y → owner_at fs y.index ≡ Some o → Carries es x → CarriedDone es x → DoneUpto 1 y.index o fs
    done x y o e q c f =
        let same : c.carried ≡ y = some_is (sym c.is ∙ e) in
        let low : y.index ≤ length es = subst (λ (z : Carried). z.index ≤ length es) same c.low in
        l.done y.index o low (f y o e (l.owners y.index o low q))

owner_old : (es : List LogEntry) (e : LogEntry) (i : ℕ) (o : LogOwner) → i ≤ length es → owner_at (es ++ e ∷ []) i ≡ Some o → owner_at es i ≡ Some o
owner_old es e zero o h q = cc
owner_old es e (suc i) o h q = go (slice_get (es ++ e ∷ []) i) refl q
  where
    go : (x : Option LogEntry) → slice_get (es ++ e ∷ []) i ≡ x → option_map of_entry x ≡ Some o → option_map of_entry (slice_get es i) ≡ Some o
    go None z q = cc
    go (Some y) z q = at (get_more es e i y z)
      where
        at : (slice_get es i ≡ Some y) ⊎ ((i ≡ length es) × (y ≡ e)) → option_map of_entry (slice_get es i) ≡ Some o
        at (inl a) = ap (option_map of_entry) a ∙ q
        at (inr a) = let b = a.0 in absurd (omega (arith, h, b))

longer_more : (es : List LogEntry) (e : LogEntry) → Longer es (es ++ e ∷ [])
longer_more es e =
    record {
      high = subst (λ n. length es ≤ n) (sym (length_more es e)) (omega arith);
      owners = λ i o h q. owner_old es e i o h q;
      done = λ i o h d. done_last 1 i o es e (omega (arith, h)) d;
    }

longer_drop : (es : List LogEntry) (picked : ℕ → LogOwner → Bool) (cause : FileId → PageNo → Cause) → Longer es (log.drop_from 1 picked cause es)
longer_drop es picked cause =
    record {
      high = subst (λ n. length es ≤ n) (sym (length_same es _ (owners_drop 1 picked cause es))) (omega arith);
      owners = λ i o h q. sym (owner_same es _ i (owners_drop 1 picked cause es)) ∙ q;
      done = λ i o h d. done_drop 1 i o 1 picked cause es d;
    }

longer_harden : (es : List LogEntry) (i : ℕ) (o : LogOwner) → Longer es (log.harden_from 1 i o es)
longer_harden es i o =
    record {
      high = subst (λ n. length es ≤ n) (sym (length_same es _ (owners_harden 1 i o es))) (omega arith);
      owners = λ j a h q. sym (owner_same es _ j (owners_harden 1 i o es)) ∙ q;
      done = λ j a h d. done_harden 1 j a 1 i o es d;
    }

longer_same : (es : List LogEntry) → Longer es es
longer_same es = record { high = omega arith; owners = λ i o h q. q; done = λ i o h d. d }

-- Entries, drops, lives that end.
pub entry_joins : (es : List LogEntry) (e : LogEntry) (cs : List IssuedCommand) (ds : List DiskCommand) → CommandsStand es cs ds → CommandsStand (es ++ e ∷ []) cs ds
entry_joins es e cs ds h = longer_log es _ cs ds (longer_more es e) h

pub picked_drop : (es : List LogEntry) (picked : ℕ → LogOwner → Bool) (cause : FileId → PageNo → Cause) (cs : List IssuedCommand) (ds : List DiskCommand) → CommandsStand es cs ds → CommandsStand (log.drop_picked es picked cause) cs ds
unfolding log.drop_picked
picked_drop es picked cause cs ds h = longer_log es _ cs ds (longer_drop es picked cause) h

pub lives_end : (ks : List IssuedCommand) (ls : List LeaseLife) (es : List LogEntry) (cs : List IssuedCommand) (ds : List DiskCommand) → CommandsStand es cs ds → CommandsStand (ev.log_ended_all ks ls es) cs ds
unfolding ev.log_ended_all ev.log_ended
lives_end ks [] es cs ds h = h
lives_end ks (l ∷ ls) es cs ds h = lives_end ks ls (ev.log_ended ks l es) cs ds (picked_drop es (ev.is_of_life_over l) (ev.cause_at_end ks l) cs ds h)

-- One more command.
pub at_more : (cs : List IssuedCommand) (ds : List DiskCommand) (c x : IssuedCommand) (d y : DiskCommand) (k : ℕ) → length cs ≡ length ds →
    numbered (cs ++ c ∷ []) k ≡ Some x → disks.command_at (ds ++ d ∷ []) k ≡ Some y →
    ((numbered cs k ≡ Some x) × (disks.command_at ds k ≡ Some y)) ⊎ ((x ≡ c) × (y ≡ d))
at_more cs ds c x d y zero n i j = cc
at_more cs ds c x d y (suc k) n i j = go (get_more cs c k x i) (get_more ds d k y j)
  where
    go : (slice_get cs k ≡ Some x) ⊎ ((k ≡ length cs) × (x ≡ c)) → (slice_get ds k ≡ Some y) ⊎ ((k ≡ length ds) × (y ≡ d)) → ((slice_get cs k ≡ Some x) × (slice_get ds k ≡ Some y)) ⊎ ((x ≡ c) × (y ≡ d))
    go (inl a) (inl b) = inl (a, b)
    go (inl a) (inr b) = absurd (let z = get_below cs k x a in let q = b.0 in omega (arith, z, q, n))
    go (inr a) (inl b) = absurd (let z = get_below ds k y b in let q = a.0 in omega (arith, z, q, n))
    go (inr a) (inr b) = inr (a.1, b.1)

command_joins : (es : List LogEntry) (cs : List IssuedCommand) (ds : List DiskCommand) (c : IssuedCommand) (what : Command) → ((at : BlockAt) → what ≡ commands.Read at → c.carries ≡ None) →
    ((at : BlockAt) (tag : Tag) (bytes : List ℕ) → what ≡ commands.Write at tag bytes → Carries es c) → CommandsStand es cs ds → CommandsStand es (cs ++ c ∷ []) (ds ++ disks.new_command what ∷ [])
command_joins es cs ds c what read write h =
    record {
      counts = length_more cs c ∙ ap suc h.counts ∙ sym (length_more ds (disks.new_command what));
      reads = λ k x d at i j e. reads k x d at e (at_more cs ds c x (disks.new_command what) d k h.counts i j);
      writes = λ k x d at tag bytes i j e. writes k x d at tag bytes e (at_more cs ds c x (disks.new_command what) d k h.counts i j);
      done = λ k x d at tag bytes i j e f. done k x d at tag bytes e f (at_more cs ds c x (disks.new_command what) d k h.counts i j);
    }
  where
    Old : ℕ → IssuedCommand → DiskCommand → Type 0
    Old k x d = (numbered cs k ≡ Some x) × (disks.command_at ds k ≡ Some d)

    New : IssuedCommand → DiskCommand → Type 0
    New x d = (x ≡ c) × (d ≡ disks.new_command what)

    reads : (k : ℕ) (x : IssuedCommand) (d : DiskCommand) (at : BlockAt) → d.what ≡ commands.Read at → Old k x d ⊎ New x d → x.carries ≡ None
    reads k x d at e (inl q) = h.reads k x d at q.0 q.1 e
    reads k x d at e (inr q) = ap (λ (y : IssuedCommand). y.carries) q.0 ∙ read at (ap (λ (z : DiskCommand). z.what) (sym q.1) ∙ e)

    writes : (k : ℕ) (x : IssuedCommand) (d : DiskCommand) (at : BlockAt) (tag : Tag) (bytes : List ℕ) → d.what ≡ commands.Write at tag bytes → Old k x d ⊎ New x d → Carries es x
    writes k x d at tag bytes e (inl q) = h.writes k x d at tag bytes q.0 q.1 e
    writes k x d at tag bytes e (inr q) = subst (Carries es) (sym q.0) (write at tag bytes (ap (λ (z : DiskCommand). z.what) (sym q.1) ∙ e))

    done : (k : ℕ) (x : IssuedCommand) (d : DiskCommand) (at : BlockAt) (tag : Tag) (bytes : List ℕ) → d.what ≡ commands.Write at tag bytes → d.effected ≡ true → Old k x d ⊎ New x d → CarriedDone es x
    done k x d at tag bytes e f (inl q) = h.done k x d at tag bytes q.0 q.1 e f
    done k x d at tag bytes e f (inr q) = absurd (no (ap (λ (z : DiskCommand). z.effected) (sym q.1) ∙ f))
      where
        no : ◌≡◌ {A = Bool} false true → ⊥
        no z = cc

-- What a client says.
abbrev Here : WorldTurn → Type 0
Here sc = CommandsStand sc.world.log sc.world.commands sc.world.disks.commands

says_one : (c : ClientId) (before : ClientState) (o : Output) (sc : WorldTurn) → Here sc → Here (client_says sc c before o)
unfolding client_says ev.sends ev.submits ev.answers_with client_notes ev.accepts ev.patches ev.loses log.accept log.patch
says_one c before (outputs.Send m) sc h = h
says_one c before (outputs.Answer op a) sc h = h
says_one c before (outputs.Submit n at what) sc h = go (site_of sc.world c)
  where
    go : (o : Option WorldClient) → Here (ev.submits sc c o n at what)
    go None = h
    go (Some site) = command_joins sc.world.log sc.world.commands sc.world.disks.commands (ev.issued sc.world c site n at what) what (read what) (write what) h
      where
        read : (w : Command) (b : BlockAt) → w ≡ commands.Read b → (ev.issued sc.world c site n at w).carries ≡ None
        read (commands.Read b) d e = refl
        read (commands.Write b t bytes) d e = cc

        write : (w : Command) (b : BlockAt) (tag : Tag) (bytes : List ℕ) → w ≡ commands.Write b tag bytes → Carries sc.world.log (ev.issued sc.world c site n at w)
        write (commands.Read b) d tag bytes e = cc
        write (commands.Write b t bs) d tag bytes e = record { carried = ev.carried sc.world c t; is = refl; low = latest_high c t.file t.page sc.world.log }
says_one c before (outputs.Note n) sc h = note n
  where
    note : (n : Note) → Here (client_notes sc c before n)
    note (notes.Accepted f p bytes) = entry_joins sc.world.log _ sc.world.commands sc.world.disks.commands h
    note (notes.Patched f p at bytes) = entry_joins sc.world.log _ sc.world.commands sc.world.disks.commands h
    note (notes.Lost s life) = h
    note n = h

pub says_stand : (c : ClientId) (before : ClientState) (os : List Output) (sc : WorldTurn) → Here sc → Here (client_says_all c before os sc)
unfolding client_says_all
says_stand c before [] sc h = h
says_stand c before (o ∷ os) sc h = says_stand c before os (client_says sc c before o) (says_one c before o sc h)

-- A command changes: in what it is known of it.
command_set : (es fs : List LogEntry) (cs : List IssuedCommand) (ds : List DiskCommand) (n : ℕ) (d e : DiskCommand) → disks.command_at ds (suc n) ≡ Some d → e.what ≡ d.what → Longer es fs →
    ((x : IssuedCommand) (at : BlockAt) (tag : Tag) (bytes : List ℕ) → numbered cs (suc n) ≡ Some x → d.what ≡ commands.Write at tag bytes → e.effected ≡ true → CarriedDone fs x) → CommandsStand es cs ds → CommandsStand fs cs (set ds n e)
command_set es fs cs ds n d e is what longer own g =
    record {
      counts = h.counts ∙ sym (set_length ds n e);
      reads = λ k x y at i j w. reads k x y at i w (at_set ds n k e y j);
      writes = λ k x y at tag bytes i j w. writes k x y at tag bytes i w (at_set ds n k e y j);
      done = λ k x y at tag bytes i j w f. done k x y at tag bytes i w f (at_set ds n k e y j);
    }
  where
    h : CommandsStand fs cs ds
    h = longer_log es fs cs ds longer g

    Either : ℕ → DiskCommand → Type 0
    Either k y = ((k ≡ suc n) × (y ≡ e)) ⊎ ((k ≢ suc n) × (disks.command_at ds k ≡ Some y))

    reads : (k : ℕ) (x : IssuedCommand) (y : DiskCommand) (at : BlockAt) → numbered cs k ≡ Some x → y.what ≡ commands.Read at → Either k y → x.carries ≡ None
    reads k x y at i w (inl q) = h.reads k x d at i (ap (disks.command_at ds) q.0 ∙ is) (sym what ∙ ap (λ (z : DiskCommand). z.what) (sym q.1) ∙ w)
    reads k x y at i w (inr q) = h.reads k x y at i q.1 w

    writes : (k : ℕ) (x : IssuedCommand) (y : DiskCommand) (at : BlockAt) (tag : Tag) (bytes : List ℕ) → numbered cs k ≡ Some x → y.what ≡ commands.Write at tag bytes → Either k y → Carries fs x
    writes k x y at tag bytes i w (inl q) = h.writes k x d at tag bytes i (ap (disks.command_at ds) q.0 ∙ is) (sym what ∙ ap (λ (z : DiskCommand). z.what) (sym q.1) ∙ w)
    writes k x y at tag bytes i w (inr q) = h.writes k x y at tag bytes i q.1 w

    done : (k : ℕ) (x : IssuedCommand) (y : DiskCommand) (at : BlockAt) (tag : Tag) (bytes : List ℕ) → numbered cs k ≡ Some x → y.what ≡ commands.Write at tag bytes → y.effected ≡ true → Either k y → CarriedDone fs x
    done k x y at tag bytes i w f (inl q) = own x at tag bytes (ap (numbered cs) (sym q.0) ∙ i) (sym what ∙ ap (λ (z : DiskCommand). z.what) (sym q.1) ∙ w) (ap (λ (z : DiskCommand). z.effected) (sym q.1) ∙ f)
    done k x y at tag bytes i w f (inr q) = h.done k x y at tag bytes i q.1 w f

-- A report changes nothing of what a command did.
pub report_stands : (es : List LogEntry) (cs : List IssuedCommand) (ds : List DiskCommand) (n : ℕ) (ok : Bool) (d : DiskCommand) → disks.command_at ds (suc n) ≡ Some d → CommandsStand es cs ds → CommandsStand es cs (set ds n (disks.reported ok d))
report_stands es cs ds n ok d is h =
    command_set es es cs ds n d (disks.reported ok d) is refl (longer_same es) (λ x at tag bytes i w f. h.done (suc n) x d at tag bytes i is w f) h

harden_longer : (es : List LogEntry) (i : ℕ) → Longer es (log.harden es i)
unfolding log.harden log.harden_at
harden_longer es i = go (entry_at es i)
  where
    go : (x : Option LogEntry) → Longer es (log.harden_at es i x)
    go None = longer_same es
    go (Some e) = longer_harden es i e.of

harden_does : (es : List LogEntry) (i : ℕ) (o : LogOwner) → owner_at (log.harden es i) i ≡ Some o → DoneUpto 1 i o (log.harden es i)
unfolding log.harden log.harden_at
harden_does es i o = go (entry_at es i) refl
  where
    go : (x : Option LogEntry) → entry_at es i ≡ x → owner_at (log.harden_at es i x) i ≡ Some o → DoneUpto 1 i o (log.harden_at es i x)
    go None e q = absurd (none (sym (ap (option_map of_entry) e) ∙ q))
      where
        none : ◌≡◌ {A = Option LogOwner} None (Some o) → ⊥
        none z = cc
    go (Some y) e q =
        let same : y.of ≡ o = some_is (sym (ap (option_map of_entry) e) ∙ sym (owner_same es _ i (owners_harden 1 i y.of es)) ∙ q) in
        subst (λ a. DoneUpto 1 i a (log.harden_from 1 i y.of es)) same (harden_done 1 i y.of es)

pub effect_stands : (es : List LogEntry) (cs : List IssuedCommand) (ds : List DiskCommand) (n : ℕ) (d e : DiskCommand) (x : IssuedCommand) → disks.command_at ds (suc n) ≡ Some d → numbered cs (suc n) ≡ Some x → e.what ≡ d.what → CommandsStand es cs ds →
    CommandsStand (ev.log_hard es x.carries) cs (set ds n e)
effect_stands es cs ds n d e x is there what h = go x.carries refl
  where
    go : (o : Option Carried) → x.carries ≡ o → CommandsStand (ev.log_hard es o) cs (set ds n e)
    go None q = command_set es es cs ds n d e is what (longer_same es) (λ y at tag bytes i w f z a u v. absurd (none z (sym q ∙ ap (λ (m : IssuedCommand). m.carries) (some_is (sym there ∙ i)) ∙ u))) h
      where
        none : (z : Carried) → ◌≡◌ {A = Option Carried} None (Some z) → ⊥
        none z e = cc
    go (Some y) q = command_set es (log.harden es y.index) cs ds n d e is what (harden_longer es y.index) own h
      where
        own : (m : IssuedCommand) (at : BlockAt) (tag : Tag) (bytes : List ℕ) → numbered cs (suc n) ≡ Some m → d.what ≡ commands.Write at tag bytes → e.effected ≡ true → CarriedDone (log.harden es y.index) m
        own m at tag bytes i w f z o u v =
            let same : y ≡ z = some_is (sym q ∙ ap (λ (k : IssuedCommand). k.carries) (some_is (sym there ∙ i)) ∙ u) in
            subst (λ (k : Carried). owner_at (log.harden es y.index) k.index ≡ Some o → DoneUpto 1 k.index o (log.harden es y.index)) same (harden_does es y.index o) v

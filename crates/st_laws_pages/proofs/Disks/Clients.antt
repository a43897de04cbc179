-- The law in the world: a step of a client.
use Rattle.st_lemmas.proofs.Words
use Words.{◌≡◌, ℕ, ◌≤◌, ◌⊎◌, Bool, true, false, List, [], ◌∷◌, ◌++◌, Option, Some, None, Ok, refl, sym, ap, ◌∙◌, subst, inl, inr, arith, length, suc, zero}
use Words.{slice_get, option_map, ClientId, ServerId, Stamp, BlockAt, Tag, Command, Note, Output, Phase, Change, LogEntry, LogOwner, DiskCommand, IssuedCommand}
use Words.nodes
use Words.commands
use Words.Page.{filled}
use Words.notes
use Words.outputs
use Words.phases
use Words.changes
use Words.FlatLog as log
use Words.Disks as disks
use Words.Client as cl
use Words.ClientState.{ClientState}
use Words.World as world
use Words.World.{World, WorldClient, site_of, numbered, server_of_disk}
use Words.Events as ev
use Words.Events.{WorldTurn, client_says, client_says_all, client_notes, latest}
use Words.Numbers.{get_more, get_below, length_more}
use Rattle.st_laws_pages.specs.Disks.Folds.{of_entry, owner_at}
use Rattle.st_laws_pages.specs.Disks.Pages.{CarriedRight}
use Rattle.st_laws_pages.specs.Disks.World.{Living, Timely, EffectDone, HoldsBy, PagesHold, mapped_in, births_in, block_in, LateStays, SubmitsRight, OwesOne}
use Rattle.st_laws_pages.specs.Disks.World.{Owes}
use Rattle.st_laws_pages.specs.Disks.Obligations.{TimelyIn}
use Rattle.st_laws_pages.proofs.Disks.Folds.{done_last, upto_all, carry_all}
use Rattle.st_laws_pages.proofs.Disks.Law.{more_pending, submitted, NewRight}
use Rattle.st_laws_pages.proofs.Disks.Moves.{later, commands_more}

-- One more entry.
pub done_of_more : (es : List LogEntry) (e : LogEntry) (x : IssuedCommand) (tag : Tag) → EffectDone es x tag → EffectDone (es ++ e ∷ []) x tag
done_of_more es e x tag d =
    record {
      index = d.index;
      carries = d.carries;
      high = let z = d.high in subst (λ n. d.index ≤ n) (sym (length_more es e)) (omega (arith, z));
      done = let z = d.high in done_last 1 d.index _ es e (omega (arith, z)) d.done;
    }

more_keeps : (T : ℕ → IssuedCommand → Type 0) (w : World) (o : LogOwner) (ch : Change) → (ch ≡ changes.Cut → ⊥) → HoldsBy T w → HoldsBy T (ev.with_log (w.log ++ log.pending o ch ∷ []) w)
more_keeps T w o ch nc h =
    record {
      pages = more_pending w.log (mapped_in w) (block_in w) (births_in w) (Living T w.commands w.disks.commands) (log.pending o ch) refl nc h.pages;
      commands = commands_more w.log _ w.commands w.disks.commands (λ x tag d. done_of_more w.log (log.pending o ch) x tag d) h.commands;
      extents = record { settings = h.extents.settings; ids = h.extents.ids; lies = h.extents.lies };
    }

-- One more command.
at_more : (cs : List IssuedCommand) (ds : List DiskCommand) (c x : IssuedCommand) (d y : DiskCommand) (k : ℕ) → length cs ≡ length ds → numbered (cs ++ c ∷ []) k ≡ Some x → disks.command_at (ds ++ d ∷ []) k ≡ Some y →
    ((numbered cs k ≡ Some x) × (disks.command_at ds k ≡ Some y)) ⊎ ((k ≡ suc (length cs)) × ((x ≡ c) × (y ≡ d)))
at_more cs ds c x d y zero n i j = cc
at_more cs ds c x d y (suc k) n i j = go (get_more cs c k x i) (get_more ds d k y j)
  where
    go : (slice_get cs k ≡ Some x) ⊎ ((k ≡ length cs) × (x ≡ c)) → (slice_get ds k ≡ Some y) ⊎ ((k ≡ length ds) × (y ≡ d)) → ((slice_get cs k ≡ Some x) × (slice_get ds k ≡ Some y)) ⊎ ((suc k ≡ suc (length cs)) × ((x ≡ c) × (y ≡ d)))
    go (inl a) (inl b) = inl (a, b)
    go (inl a) (inr b) = absurd (let z = get_below cs k x a in let q = b.0 in omega (arith, z, q, n))
    go (inr a) (inl b) = absurd (let z = get_below ds k y b in let q = a.0 in omega (arith, z, q, n))
    go (inr a) (inr b) = inr (ap suc a.0, (a.1, b.1))

-- what a submitted command is
record SubmittedRight (T : ℕ → IssuedCommand → Type 0) (w : World) (c : IssuedCommand) (what : Command) : Type 0 where
  pub read : (at : BlockAt) → what ≡ commands.Read at → c.carries ≡ None
  pub write : (at : BlockAt) (tag : Tag) (bytes : List ℕ) → what ≡ commands.Write at tag bytes → CarriedRight w.log (mapped_in w tag.file tag.page) c at tag bytes
  pub alone : (at : BlockAt) (tag : Tag) (bytes : List ℕ) → what ≡ commands.Write at tag bytes → (j : ℕ) (y : IssuedCommand) (a : BlockAt) (t : Tag) (ct : List ℕ) → Living T w.commands w.disks.commands j y a t ct →
      Rattle.st_laws_pages.specs.Disks.Pages.same_place t.file t.page tag.file tag.page ≡ true → ⊥

submit_keeps : (T : ℕ → IssuedCommand → Type 0) (w : World) (c : IssuedCommand) (what : Command) → SubmittedRight T w c what → HoldsBy T w → HoldsBy T (ev.with_command c what w)
submit_keeps T w c what r h =
    record {
      pages =
          submitted w.log (mapped_in w) (block_in w) (births_in w) (Living T w.commands w.disks.commands) _ (suc (length w.commands))
          (λ k x at tag bytes l. old_or_new k x at tag bytes l (at_more w.commands w.disks.commands c x (disks.new_command what) l.command k h.commands.counts l.issued l.is)) h.pages;
      commands =
          record {
            counts = length_more w.commands c ∙ ap suc h.commands.counts ∙ sym (length_more w.disks.commands (disks.new_command what));
            reads = λ k x d at i j e. read k x d at e (at_more w.commands w.disks.commands c x (disks.new_command what) d k h.commands.counts i j);
            done = λ k x d at tag bytes i j e f. done k x d at tag bytes e f (at_more w.commands w.disks.commands c x (disks.new_command what) d k h.commands.counts i j);
          };
      extents = record { settings = h.extents.settings; ids = h.extents.ids; lies = h.extents.lies };
    }
  where
    cs : List IssuedCommand
    cs = w.commands ++ c ∷ []

    ds : List DiskCommand
    ds = w.disks.commands ++ disks.new_command what ∷ []

    old_or_new : (k : ℕ) (x : IssuedCommand) (at : BlockAt) (tag : Tag) (bytes : List ℕ) → (l : Living T cs ds k x at tag bytes) →
        ((numbered w.commands k ≡ Some x) × (disks.command_at w.disks.commands k ≡ Some l.command)) ⊎ ((k ≡ suc (length w.commands)) × ((x ≡ c) × (l.command ≡ disks.new_command what))) →
        Living T w.commands w.disks.commands k x at tag bytes ⊎ NewRight w.log (mapped_in w) (Living T w.commands w.disks.commands) (suc (length w.commands)) k x at tag bytes
    old_or_new k x at tag bytes l (inl q) = inl (record { issued = q.0; command = l.command; is = q.1; what = l.what; unreported = l.unreported; fresh = l.fresh; timely = l.timely })
    old_or_new k x at tag bytes l (inr q) =
        let e : what ≡ commands.Write at tag bytes = ap (λ (z : DiskCommand). z.what) (sym q.1.1) ∙ l.what in
        inr (record { number = q.0; right = subst (λ y. CarriedRight w.log (mapped_in w tag.file tag.page) y at tag bytes) (sym q.1.0) (r.write at tag bytes e); alone = r.alone at tag bytes e })

    read : (k : ℕ) (x : IssuedCommand) (d : DiskCommand) (at : BlockAt) → d.what ≡ commands.Read at →
        ((numbered w.commands k ≡ Some x) × (disks.command_at w.disks.commands k ≡ Some d)) ⊎ ((k ≡ suc (length w.commands)) × ((x ≡ c) × (d ≡ disks.new_command what))) → x.carries ≡ None
    read k x d at e (inl q) = h.commands.reads k x d at q.0 q.1 e
    read k x d at e (inr q) = ap (λ (y : IssuedCommand). y.carries) q.1.0 ∙ r.read at (ap (λ (z : DiskCommand). z.what) (sym q.1.1) ∙ e)

    done : (k : ℕ) (x : IssuedCommand) (d : DiskCommand) (at : BlockAt) (tag : Tag) (bytes : List ℕ) → d.what ≡ commands.Write at tag bytes → d.effected ≡ true →
        ((numbered w.commands k ≡ Some x) × (disks.command_at w.disks.commands k ≡ Some d)) ⊎ ((k ≡ suc (length w.commands)) × ((x ≡ c) × (d ≡ disks.new_command what))) → EffectDone w.log x tag
    done k x d at tag bytes e f (inl q) = h.commands.done k x d at tag bytes q.0 q.1 e f
    done k x d at tag bytes e f (inr q) = absurd (no (ap (λ (z : DiskCommand). z.effected) (sym q.1.1) ∙ f))
      where
        no : ◌≡◌ {A = Bool} false true → ⊥
        no z = cc

owner_high : (es : List LogEntry) (i : ℕ) (o : LogOwner) → owner_at es i ≡ Some o → i ≤ length es
owner_high es zero o e = cc
owner_high es (suc n) o e = go (slice_get es n) refl e
  where
    go : (x : Option LogEntry) → slice_get es n ≡ x → option_map of_entry x ≡ Some o → suc n ≤ length es
    go None q f = cc
    go (Some x) q f = let z = get_below es n x q in omega (arith, z)

submits_keeps : (T : ℕ → IssuedCommand → Type 0) (w : World) (c : ClientId) (site : WorldClient) (number : ℕ) (at : BlockAt) (what : Command) → SubmitsRight T w c (Some site) at what → HoldsBy T w →
    HoldsBy T (ev.with_command (ev.issued w c site number at what) what w)
unfolding log.content
submits_keeps T w c site number at (commands.Read to) r h = submit_keeps T w _ (commands.Read to) (record { read = λ b e. refl; write = λ b t ct e. absurd (no b t ct e); alone = λ b t ct e. absurd (no b t ct e) }) h
  where
    no : (b : BlockAt) (t : Tag) (ct : List ℕ) → commands.Read to ≡ commands.Write b t ct → ⊥
    no b t ct e = cc
submits_keeps T w c site number at (commands.Write to tag bytes) r h = submit_keeps T w x (commands.Write to tag bytes) (record { read = λ b e. absurd (no b e); write = λ b t ct e. same b t ct e here; alone = λ b t ct e. subst (λ z. Alone z) (tag_is b t ct e) r.alone }) h
  where
    x : IssuedCommand
    x = ev.issued w c site number at (commands.Write to tag bytes)

    Alone : Tag → Type 0
    Alone z = (j : ℕ) (y : IssuedCommand) (a : BlockAt) (t : Tag) (ct : List ℕ) → Living T w.commands w.disks.commands j y a t ct → Rattle.st_laws_pages.specs.Disks.Pages.same_place t.file t.page z.file z.page ≡ true → ⊥

    no : (b : BlockAt) → commands.Write to tag bytes ≡ commands.Read b → ⊥
    no b e = cc

    tag_is : (b : BlockAt) (t : Tag) (ct : List ℕ) → commands.Write to tag bytes ≡ commands.Write b t ct → tag ≡ t
    tag_is b t ct e = cc

    to_is : (b : BlockAt) (t : Tag) (ct : List ℕ) → commands.Write to tag bytes ≡ commands.Write b t ct → to ≡ b
    to_is b t ct e = cc

    bytes_is : (b : BlockAt) (t : Tag) (ct : List ℕ) → commands.Write to tag bytes ≡ commands.Write b t ct → bytes ≡ ct
    bytes_is b t ct e = cc

    i : ℕ
    i = latest w.log c tag.file tag.page

    here : CarriedRight w.log (mapped_in w tag.file tag.page) x to tag bytes
    here =
        record {
          index = i;
          carries = refl;
          high = owner_high w.log i _ r.of;
          of = r.of;
          server = ap (server_of_disk w) (sym r.at_is) ∙ h.extents.lies tag.file tag.page r.extent r.is;
          are = r.are ∙ sym (upto_all 1 i (filled 0) tag.file tag.page w.log r.last);
          carry = carry_all 1 i _ tag.file tag.page w.log r.last r.own;
          extent = r.extent;
          is = r.is;
          lies = r.at_is ∙ r.place;
          born = r.born;
        }

    same : (b : BlockAt) (t : Tag) (ct : List ℕ) → commands.Write to tag bytes ≡ commands.Write b t ct → CarriedRight w.log (mapped_in w tag.file tag.page) x to tag bytes → CarriedRight w.log (mapped_in w t.file t.page) x b t ct
    same b t ct e v =
        subst (λ z. CarriedRight w.log (mapped_in w z.file z.page) x b z ct) (tag_is b t ct e)
        (subst (λ z. CarriedRight w.log (mapped_in w tag.file tag.page) x z tag ct) (to_is b t ct e) (subst (λ z. CarriedRight w.log (mapped_in w tag.file tag.page) x to tag z) (bytes_is b t ct e) v))

pub says_keeps : (T : ℕ → IssuedCommand → Type 0) (c : ClientId) (before : ClientState) (o : Output) (sc : WorldTurn) → OwesOne T sc.world c o → HoldsBy T sc.world → HoldsBy T (client_says sc c before o).world
unfolding client_says ev.sends ev.submits ev.answers_with client_notes ev.accepts ev.patches ev.loses log.accept log.patch
says_keeps T c before (outputs.Send m) sc r h = record { pages = h.pages; commands = h.commands; extents = record { settings = h.extents.settings; ids = h.extents.ids; lies = h.extents.lies } }
says_keeps T c before (outputs.Answer op a) sc r h = record { pages = h.pages; commands = h.commands; extents = record { settings = h.extents.settings; ids = h.extents.ids; lies = h.extents.lies } }
says_keeps T c before (outputs.Submit n at what) sc r h = go (site_of sc.world c) r
  where
    go : (o : Option WorldClient) → SubmitsRight T sc.world c o at what → HoldsBy T (ev.submits sc c o n at what).world
    go None r = h
    go (Some site) r = submits_keeps T sc.world c site n at what r h
says_keeps T c before (outputs.Note n) sc r h = note n
  where
    note : (n : Note) → HoldsBy T (client_notes sc c before n).world
    note (notes.Accepted f p bytes) = more_keeps T sc.world _ (changes.Write bytes) (λ e. cc) h
    note (notes.Patched f p at bytes) = more_keeps T sc.world _ (changes.Patch at bytes) (λ e. cc) h
    note (notes.Lost s life) = record { pages = h.pages; commands = h.commands; extents = record { settings = h.extents.settings; ids = h.extents.ids; lies = h.extents.lies } }
    note n = h

says_all : (T : ℕ → IssuedCommand → Type 0) (c : ClientId) (before : ClientState) (os : List Output) (sc : WorldTurn) → Owes T c before sc os → HoldsBy T sc.world → HoldsBy T (client_says_all c before os sc).world
unfolding client_says_all
says_all T c before [] sc r h = h
says_all T c before (o ∷ os) sc r h = says_all T c before os (client_says sc c before o) r.rest (says_keeps T c before o sc r.one h)

flush_keeps : (T : ℕ → IssuedCommand → Type 0) (c : ClientId) (s : ClientState) (ss : List ServerId) (w : World) → HoldsBy T w → HoldsBy T (ev.flushes c s ss w)
unfolding ev.flushes
flush_keeps T c s [] w h = h
flush_keeps T c s (x ∷ ss) w h = flush_keeps T c s ss (ev.flushed_at w c x s) (in_phase (cl.lease_end_with s x) (cl.phase_with s x (world.clock_of w (nodes.Client c))))
  where
    under : (o : Option Stamp) → HoldsBy T (ev.flushed_under w c x o)
    under None = h
    under (Some e) = record { pages = h.pages; commands = h.commands; extents = record { settings = h.extents.settings; ids = h.extents.ids; lies = h.extents.lies } }

    in_phase : (o : Option Stamp) (p : Option Phase) → HoldsBy T (ev.flushed_in w c x o p)
    in_phase o (Some phases.Flush) = under o
    in_phase o (Some phases.Valid) = h
    in_phase o (Some phases.Renewal) = h
    in_phase o (Some phases.Quiesce) = h
    in_phase o (Some phases.Expired) = h
    in_phase o None = h

-- A step of a client.
pub client_keeps : (w : World) (c : ClientId) (site : WorldClient) (t : cl.NodeTurn) → Owes (TimelyIn w) c site.node.state (ev.quiet (ev.with_site c (ev.at_node t.node site) w)) t.out → LateStays w (ev.client_took w c site (Ok t)).world →
    PagesHold w → PagesHold (ev.client_took w c site (Ok t)).world
unfolding ev.client_took
client_keeps w c site t owes late h =
    let T : ℕ → IssuedCommand → Type 0 = TimelyIn w in
    let v : World = ev.with_site c (ev.at_node t.node site) w in
    let g : HoldsBy T w = later (Timely w) T w (λ k x i f. f i) h in
    let begins : HoldsBy T v = record { pages = g.pages; commands = g.commands; extents = record { settings = g.extents.settings; ids = g.extents.ids; lies = g.extents.lies } } in
    let sc : WorldTurn = client_says_all c site.node.state t.out (ev.quiet v) in
    let ends : HoldsBy T (ev.client_took w c site (Ok t)).world = flush_keeps T c t.node.state (world.all_servers sc.world) sc.world (says_all T c site.node.state t.out (ev.quiet v) owes begins) in
    later T (Timely (ev.client_took w c site (Ok t)).world) (ev.client_took w c site (Ok t)).world (λ k x i f e. late k x e f) ends

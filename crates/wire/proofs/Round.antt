-- Both round trips: written messages read back equal, accepted bytes write back equal. Assumes nothing.
use mathlib.Core.Path.{◌≡◌, refl, sym, ap, ap₂, ◌∙◌}
use mathlib.Core.Bool.{Bool, true, false, ◌&&◌, ◌||◌, cond}
use mathlib.Core.List.{List, [], ◌∷◌, ◌++◌, append_assoc, append-nil}
use Prim.Native.Nat.{ℕ, ◌+◌, ◌-◌, ◌≤◌, ◌<◌}
use native.Mathlib.Omega.{arith}
use lib.Dec.{ltb}
use lib.ListN.{length, get_or, take, drop, take-append-drop, length-drop}
use lib.Seq.{take_all, take-add, drop-drop}
use borrow.Author.Tests.{eq-eqb, eqb-true, ltb-false}
use Rattle.std.specs.Prelude.{Result, Ok, Err}
use Rattle.numbers.specs.Num.{num_at, splice}
use Rattle.numbers.specs.Fields.{size_of, fields_at, FieldsFit}
use Rattle.numbers.proofs.Laws.{splice-same}
use Rattle.numbers.proofs.Fields.{fields_at-fields_bytes, fields_bytes-fields_at}
use Rattle.codec.specs.Parts.{sent_widths, sent_numbers, sent_of, sent_at, sent_bytes, deps_widths, deps_at, deps_bytes}
use Rattle.codec.proofs.Laws.{Sendable, sent_is, sent_numbers-fit, sent_bytes-sent_at, deps_at-deps_bytes, deps_bytes-deps_at}
use Rattle.paper.specs.Command.{op_number, noop}
use Rattle.paper.specs.Deps.{no_deps, same_deps}
use Rattle.paper.specs.Setup.{copies_ok, numbers_ok, copy_ok, setup_ok}
use Rattle.paper.specs.Fits.{DepsFit, CarriedFits, MessageFits}
use Rattle.paper.specs.Message.{row_in, parts_of, parts_in, kind_of, carried_in, command_in, vote_in, body_of, kept}
use Rattle.paper.specs.Valid.{op_range, valid, deps_carried, second_carried}
use Rattle.paper.proofs.Laws.{and-true, same_deps-eq}
use Rattle.paper.proofs.Bodies.{kind-small, kind-known, body_is, second_is, no_second, carried-is, carried-kept, kept-kept}
use Rattle.paper.proofs.Valid.{clauses-of, op_fits_lem}
use Rattle.paper.specs.declared.Command.{Command}
use Rattle.paper.specs.declared.Carried.{Carried}
use Rattle.paper.specs.declared.Parts.{Parts}
use Rattle.paper.specs.declared.Message.{Message}
use Rattle.paper.specs.declared.Refusal.{Refusal}
use Rattle.paper.specs.declared.Refusal.TheVariants as why
use Rattle.wire.specs.Wire.{head_widths, told_widths, joined_widths, head_numbers, past, command_start, deps_start, joined_start, rest_end, length_of, part, told_bytes, joined_bytes, head_bytes, rest_bytes, message_bytes, kind_at, carried_at, beside_at, body_at, message_at, framed, op_at, op_fits, valid_bytes}
use Rattle.wire.specs.Calls.{read_message, unwritten, Wrote, wrote, writing_count}
use Rattle.wire.proofs.Laws.{past-over, told-room, command-room, deps-room, joined-room, ten, long-enough, Framed, framed_is, kind-held, length-head_bytes, told-ends, command-ends, deps-ends, length-message_bytes, why_read, why_written, read_is, wrote-is, wrote-ok}

-- each number fits its field
head_numbers-fit : (m : Message) → MessageFits m → FieldsFit head_widths (head_numbers m)
head_numbers-fit m f =
    (omega (arith, kind-small m.body), (omega (arith, f.from), (omega (arith, f.to), (omega (arith, f.owner), (f.number, (f.ballot, tt))))))

-- what is equal where a part is there is equal as that part
same-where : {A : Type 0} (b : Bool) (u v z : A) → (b ≡ true → u ≡ v) → cond b u z ≡ cond b v z
same-where true u v z h = h refl
same-where false u v z h = refl

-- what the parts of a written rest read as
module _ (p : Parts) (x : Carried) (d h : List ℕ) (e : length h ≡ 10) (fx : CarriedFits x) (fd : DepsFit d) (sx : Sendable p.second x.command) where
  abbrev told : List ℕ
  told = part p.told (told_bytes x)

  abbrev command : List ℕ
  command = part p.command (sent_bytes p.second x.command)

  abbrev deps : List ℕ
  deps = part p.deps (deps_bytes d)

  abbrev joined : List ℕ
  joined = part p.joined (joined_bytes x)

  abbrev all : List ℕ
  all = h ++ rest_bytes p x d

  told-reads : p.told ≡ true → fields_at told_widths all 10 ≡ x.voted ∷ x.status ∷ []
  unfolding rest_bytes
  told-reads t =
      let s : all ≡ h ++ (told ++ (command ++ (deps ++ joined))) = simp append_assoc in
      let u : all ≡ h ++ (told_bytes x ++ (command ++ (deps ++ joined))) = s ∙ ap (λ (b : Bool). h ++ (part b (told_bytes x) ++ (command ++ (deps ++ joined)))) t in
      ap (λ (l : List ℕ). fields_at told_widths l 10) u
      ∙ fields_at-fields_bytes told_widths (x.voted ∷ x.status ∷ []) h (command ++ (deps ++ joined)) 10 e (fx.voted, (omega (arith, fx.status), tt))

  command-reads : p.command ≡ true → fields_at (sent_widths p.second) all (command_start p 10) ≡ sent_numbers p.second x.command
  unfolding rest_bytes sent_bytes
  command-reads t =
      let s : all ≡ h ++ told ++ (command ++ (deps ++ joined)) = simp append_assoc in
      let u : all ≡ h ++ told ++ (sent_bytes p.second x.command ++ (deps ++ joined)) =
      s ∙ ap (λ (b : Bool). h ++ told ++ (part b (sent_bytes p.second x.command) ++ (deps ++ joined))) t in
      ap (λ (l : List ℕ). fields_at (sent_widths p.second) l (command_start p 10)) u
      ∙ fields_at-fields_bytes (sent_widths p.second) (sent_numbers p.second x.command) (h ++ told) (deps ++ joined) (command_start p 10) (told-ends p x d h 10 e)
      (sent_numbers-fit p.second x.command fx.command)

  deps-reads : p.deps ≡ true → deps_at all (deps_start p 10) ≡ d
  unfolding rest_bytes
  deps-reads t =
      let s : all ≡ h ++ told ++ command ++ (deps ++ joined) = simp append_assoc in
      let u : all ≡ h ++ told ++ command ++ (deps_bytes d ++ joined) = s ∙ ap (λ (b : Bool). h ++ told ++ command ++ (part b (deps_bytes d) ++ joined)) t in
      ap (λ (l : List ℕ). deps_at l (deps_start p 10)) u ∙ deps_at-deps_bytes d (h ++ told ++ command) joined (deps_start p 10) (command-ends p x d h 10 e) fd

  joined-reads : p.joined ≡ true → fields_at joined_widths all (joined_start p 10) ≡ x.joined ∷ []
  unfolding rest_bytes
  joined-reads t =
      let s : all ≡ h ++ told ++ command ++ deps ++ (joined ++ []) = simp (append_assoc, append-nil) in
      let u : all ≡ h ++ told ++ command ++ deps ++ (joined_bytes x ++ []) = s ∙ ap (λ (b : Bool). h ++ told ++ command ++ deps ++ (part b (joined_bytes x) ++ [])) t in
      ap (λ (l : List ℕ). fields_at joined_widths l (joined_start p 10)) u
      ∙ fields_at-fields_bytes joined_widths (x.joined ∷ []) (h ++ told ++ command ++ deps) [] (joined_start p 10) (deps-ends p x d h 10 e) (fx.joined, tt)

  rest-carried : carried_at p all ≡ kept p x
  unfolding carried_at kept sent_at
  rest-carried = λ i. record {
    voted = same-where p.told (num_at 4 all 10) x.voted 0 (λ t. ap (λ (l : List ℕ). get_or l 0 0) (told-reads t)) i;
    status = same-where p.told (num_at 1 all 14) x.status 0 (λ t. ap (λ (l : List ℕ). get_or l 1 0) (told-reads t)) i;
    command = same-where p.command (sent_at p.second all (command_start p 10)) x.command noop (λ t. ap (sent_of p.second) (command-reads t) ∙ sent_is p.second x.command sx) i;
    joined = same-where p.joined (num_at 4 all (joined_start p 10)) x.joined 0 (λ t. ap (λ (l : List ℕ). get_or l 0 0) (joined-reads t)) i;
  }

  rest-beside : beside_at p all ≡ cond p.deps d no_deps
  unfolding beside_at
  rest-beside = same-where p.deps (deps_at all (deps_start p 10)) d no_deps deps-reads

  -- the op byte is the command's op, where there is one
  rest-op : p.command ≡ true → op_at p all ≡ op_number x.command.op
  unfolding op_at
  rest-op t = (rw t) ∙ op-first p.second (command_start p 10) ∙ ap (λ (l : List ℕ). get_or l 0 0) (command-reads t) ∙ sent-first p.second x.command
    where
      op-first : (b : Bool) (at : ℕ) → num_at 1 all at ≡ get_or (fields_at (sent_widths b) all at) 0 0
      op-first true at = refl
      op-first false at = refl

      sent-first : (b : Bool) (k : Command) → get_or (sent_numbers b k) 0 0 ≡ op_number k.op
      sent-first true k = refl
      sent-first false k = refl

-- a command that its kind carries whole
sendable : (m : Message) → second_carried (row_in m.body) (vote_in m) ≡ true → Sendable (parts_in m.body).second (command_in m.body)
sendable m h = record { rewire = sym (second_is m.body); none = λ e. eqb-true (command_in m.body).second 0 (rw e at h) }

-- what a written message reads as
module _ (m : Message) (f : MessageFits m) (short : second_carried (row_in m.body) (vote_in m) ≡ true) where
  head-reads : fields_at head_widths (message_bytes m) 0 ≡ head_numbers m
  unfolding message_bytes head_bytes
  head-reads =
      fields_at-fields_bytes head_widths (head_numbers m) [] (rest_bytes (parts_in m.body) (carried_in m.body) m.deps) 0 refl (head_numbers-fit m f)

  kind-reads : kind_at (message_bytes m) ≡ kind_of m.body
  kind-reads = ap (λ (l : List ℕ). get_or l 0 0) head-reads

  at_reads : (i : ℕ) → get_or (fields_at head_widths (message_bytes m) 0) i 0 ≡ get_or (head_numbers m) i 0
  at_reads i = ap (λ (l : List ℕ). get_or l i 0) head-reads

  body_reads : body_at (kind_at (message_bytes m)) (message_bytes m) ≡ m.body
  unfolding message_bytes
  body_reads =
      ap (λ (k : ℕ). body_at k (message_bytes m)) kind-reads
      ∙ ap (body_of (kind_of m.body))
      (rest-carried (parts_in m.body) (carried_in m.body) m.deps (head_bytes m) (length-head_bytes m) f.body f.deps (sendable m short) ∙ carried-kept m.body)
      ∙ body_is m.body

  beside-reads : deps_carried (row_in m.body) m ≡ true → beside_at (parts_of (kind_at (message_bytes m))) (message_bytes m) ≡ m.deps
  unfolding message_bytes
  beside-reads h =
      ap (λ (k : ℕ). beside_at (parts_of k) (message_bytes m)) kind-reads
      ∙ rest-beside (parts_in m.body) (carried_in m.body) m.deps (head_bytes m) (length-head_bytes m) f.body f.deps (sendable m short)
      ∙ go (parts_in m.body).deps h
    where
      go : (b : Bool) → (b || same_deps m.deps no_deps) ≡ true → cond b m.deps no_deps ≡ m.deps
      go true h = refl
      go false h = sym (same_deps-eq m.deps no_deps f.deps.seven refl h)

  -- a written message reads as itself
  pub message_at-message_bytes : deps_carried (row_in m.body) m ≡ true → message_at (message_bytes m) ≡ m
  unfolding message_at
  message_at-message_bytes h = λ i. record {
    from = at_reads 1 i;
    to = at_reads 2 i;
    owner = at_reads 3 i;
    number = at_reads 4 i;
    ballot = at_reads 5 i;
    body = body_reads i;
    deps = beside-reads h i;
  }

  framed-written : framed (message_bytes m) ≡ true
  unfolding framed
  framed-written =
      let k = kind-reads in
      let l = length-message_bytes m in
      rw (k, l, kind-known m.body) (eq-eqb (length_of (kind_of m.body)) (length_of (kind_of m.body)) refl)

  op-written : op_fits (message_bytes m) ≡ true
  unfolding message_bytes op_at
  op-written =
      ap (λ (k : ℕ). op_range (parts_of k).second (op_at (parts_of k) (message_bytes m))) kind-reads ∙ go (parts_in m.body).command refl
    where
      go : (t : Bool) → (parts_in m.body).command ≡ t → op_range (parts_in m.body).second (op_at (parts_in m.body) (message_bytes m)) ≡ true
      go true e =
          let o = rest-op (parts_in m.body) (carried_in m.body) m.deps (head_bytes m) (length-head_bytes m) f.body f.deps (sendable m short) e in
          ap (op_range (parts_in m.body).second) o ∙ op_fits_lem 0 0 0 m
      go false e = rw (no_second m.body e, e)

-- the bytes from one place to another
abbrev span : List ℕ → ℕ → ℕ → List ℕ
span s a e = take (e - a) (drop a s)

span-join : (s : List ℕ) (a e g : ℕ) → a ≤ e → e ≤ g → span s a e ++ span s e g ≡ span s a g
span-join s a e g h k =
    let n : g - a ≡ (e - a) + (g - e) = omega arith in
    let m : a + (e - a) ≡ e = omega arith in
    sym (rw (n, take-add (e - a) (g - e) (drop a s), drop-drop (e - a) a s, m) refl)

span-part : (s : List ℕ) (b : Bool) (ws l : List ℕ) (at : ℕ) → (b ≡ true → l ≡ take (size_of ws) (drop at s)) → part b l ≡ span s at (past b ws at)
unfolding past
span-part s true ws l at h = let n : at + size_of ws - at ≡ size_of ws = omega arith in rw n (h refl)
span-part s false ws l at h = let n : at - at ≡ 0 = omega arith in rw n

-- the parts of bytes of their length write back as these bytes
module _ (p : Parts) (b : List ℕ) (byte : (i : ℕ) → get_or b i 0 < 256) (l : length b ≡ rest_end p 10) (o : op_range p.second (op_at p b) ≡ true) where
  told_back : part p.told (told_bytes (carried_at p b)) ≡ span b 10 (command_start p 10)
  unfolding carried_at kept
  told_back = span-part b p.told told_widths (told_bytes (carried_at p b)) 10 go
    where
      go : p.told ≡ true → told_bytes (carried_at p b) ≡ take 5 (drop 10 b)
      go t = rw t (fields_bytes-fields_at told_widths b 10 byte (omega (arith, l, told-room p 10 t)))

  command-back : part p.command (sent_bytes p.second (carried_at p b).command) ≡ span b (command_start p 10) (deps_start p 10)
  unfolding carried_at kept op_at
  command-back = span-part b p.command (sent_widths p.second) (sent_bytes p.second (carried_at p b).command) (command_start p 10) go
    where
      go : p.command ≡ true → sent_bytes p.second (carried_at p b).command ≡ take (size_of (sent_widths p.second)) (drop (command_start p 10) b)
      go t = rw t (sent_bytes-sent_at p.second b (command_start p 10) byte (omega (arith, l, command-room p 10 t)) (rw t at o))

  deps-back : part p.deps (deps_bytes (beside_at p b)) ≡ span b (deps_start p 10) (joined_start p 10)
  unfolding beside_at
  deps-back = span-part b p.deps deps_widths (deps_bytes (beside_at p b)) (deps_start p 10) go
    where
      go : p.deps ≡ true → deps_bytes (beside_at p b) ≡ take 14 (drop (deps_start p 10) b)
      go t = rw t (deps_bytes-deps_at b (deps_start p 10) byte (omega (arith, l, deps-room p 10 t)))

  joined_back : part p.joined (joined_bytes (carried_at p b)) ≡ span b (joined_start p 10) (rest_end p 10)
  unfolding carried_at kept
  joined_back = span-part b p.joined joined_widths (joined_bytes (carried_at p b)) (joined_start p 10) go
    where
      go : p.joined ≡ true → joined_bytes (carried_at p b) ≡ take 4 (drop (joined_start p 10) b)
      go t = rw t (fields_bytes-fields_at joined_widths b (joined_start p 10) byte (omega (arith, l, joined-room p 10 t)))

  rest_back : rest_bytes p (carried_at p b) (beside_at p b) ≡ drop 10 b
  unfolding rest_bytes
  rest_back =
      let c1 : 10 ≤ command_start p 10 = past-over p.told told_widths 10 in
      let c2 : command_start p 10 ≤ deps_start p 10 = past-over _ _ _ in
      let c3 : deps_start p 10 ≤ joined_start p 10 = past-over _ _ _ in
      let c4 : joined_start p 10 ≤ rest_end p 10 = past-over _ _ _ in
      let j1 = span-join b 10 (command_start p 10) (deps_start p 10) c1 c2 in
      let j2 = span-join b 10 (deps_start p 10) (joined_start p 10) (omega arith) c3 in
      let j3 = span-join b 10 (joined_start p 10) (rest_end p 10) (omega arith) c4 in
      rw (told_back, command-back, deps-back, joined_back, j1, j2, j3) (take_all (rest_end p 10 - 10) (drop 10 b) (simp length-drop (omega arith)))

-- accepted bytes write back as themselves
module _ (b : List ℕ) (byte : (i : ℕ) → get_or b i 0 < 256) (f : Framed b) (o : op_fits b ≡ true) where
  kind-back : kind_of (body_at (kind_at b) b) ≡ kind_at b
  kind-back = kind-held b f.known

  carried-back : carried_in (body_at (kind_at b) b) ≡ carried_at (parts_of (kind_at b)) b
  unfolding carried_at
  carried-back = carried-is (kind_at b) (carried_at (parts_of (kind_at b)) b) f.known ∙ kept-kept (parts_of (kind_at b)) _

  head-back : head_bytes (message_at b) ≡ take 10 b
  unfolding head_bytes message_at
  head-back = rw kind-back (fields_bytes-fields_at head_widths b 0 byte (omega (arith, f.exact, ten (kind_at b))))

  tail-back : rest_bytes (parts_in (message_at b).body) (carried_in (message_at b).body) (message_at b).deps ≡ drop 10 b
  unfolding message_at length_of
  tail-back = rw (kind-back, carried-back) (rest_back (parts_of (kind_at b)) b byte f.exact o)

  pub message_bytes-message_at : message_bytes (message_at b) ≡ b
  unfolding message_bytes
  message_bytes-message_at = rw (head-back, tail-back) (take-append-drop 10 b)

-- the parts of valid that the round trips rest on
valid-carried : (n s c : ℕ) (m : Message) → valid n s c m ≡ true → deps_carried (row_in m.body) m ≡ true
valid-carried n s c m h = (clauses-of n s c m h).carried

valid-short : (n s c : ℕ) (m : Message) → valid n s c m ≡ true → second_carried (row_in m.body) (vote_in m) ≡ true
valid-short n s c m h = (clauses-of n s c m h).short

valid-here : (n s c : ℕ) (m : Message) → valid n s c m ≡ true → m.to ≡ c
valid-here n s c m h = eqb-true m.to c (clauses-of n s c m h).here

valid-written : (n s c : ℕ) (b : List ℕ) → framed b ≡ true → op_fits b ≡ true → valid n s c (message_at b) ≡ true → valid_bytes n s c b ≡ true
unfolding valid_bytes
valid-written n s c b f o v = rw (f, o) v

-- Written messages read back equal: what a message that the writer takes is written as, its receiver reads as that message.
pub written-reads-back : (n s c : ℕ) (m : Message) → MessageFits m → setup_ok n s c ≡ true → valid n s c m ≡ true
    → read_message n s c (message_bytes m) ≡ Ok m
written-reads-back n s c m f p v =
    let h = valid-short n s c m v in
    let e : message_at (message_bytes m) ≡ m = message_at-message_bytes m f h (valid-carried n s c m v) in
    let w : valid_bytes n s c (message_bytes m) ≡ true = valid-written n s c (message_bytes m) (framed-written m f h) (op-written m f h) (ap (valid n s c) e ∙ v) in
    read_is n s c (message_bytes m) ∙ rw (p, w) (ap (λ (x : Message). Ok x) e)

write-then-read : (n s c : ℕ) (out : List ℕ) (m : Message) → MessageFits m → setup_ok n s c ≡ true → setup_ok n s m.to ≡ true → 256 ≤ length out
    → valid n s m.to m ≡ true → read_message n s m.to (take (length_of (kind_of m.body)) (wrote n s c out m).out) ≡ Ok m
write-then-read n s c out m f p q r v =
    let w = ap (λ (x : Wrote). x.out) (wrote-ok n s c out m p r v) in
    let l = length-message_bytes m in
    let short : length_of (kind_of m.body) ≤ 46 = long-enough (kind_of m.body) in
    let t : take (length_of (kind_of m.body)) (splice out 0 (message_bytes m)) ≡ message_bytes m =
    splice-same out 0 (message_bytes m) (length_of (kind_of m.body)) l (omega arith) in
    rw (← w, t) (written-reads-back n s m.to m f q v)

-- The same of the calls: where the writer answers a count, so many bytes of the room are read by the copy named in `to` as that
-- message.
pub written_read : (n s c : ℕ) (out : List ℕ) (m : Message) (k : ℕ) → MessageFits m → (wrote n s c out m).answer ≡ Ok k
    → read_message n s m.to (take k (wrote n s c out m).out) ≡ Ok m
unfolding setup_ok
written_read n s c out m k f e = go (setup_ok n s c) refl (ltb (length out) 256) refl (valid n s m.to m) refl
  where
    refused : {A : Type 0} (r : Refusal) → wrote n s c out m ≡ unwritten r out → A
    refused r h =
        let x : ◌≡◌ {A = Result ℕ Refusal} (Err r) (Ok k) = ap (λ (w : Wrote). w.answer) (sym h) ∙ e in
        let z : ◌≡◌ {A = ℕ} 0 1 = cc in
        absurd (omega arith)

    go : (a : Bool) → setup_ok n s c ≡ a → (b : Bool) → ltb (length out) 256 ≡ b → (v : Bool) → valid n s m.to m ≡ v
        → read_message n s m.to (take k (wrote n s c out m).out) ≡ Ok m
    go false p b q v r = refused why.Setup (wrote-is n s c out m ∙ rw p)
    go true p true q v r = refused why.Room (wrote-is n s c out m ∙ rw (p, q))
    go true p false q false r = refused (why_written n s m) (wrote-is n s c out m ∙ rw (p, q, r))
    go true p false q true r =
        let long : 256 ≤ length out = ltb-false (length out) 256 q in
        let a : ◌≡◌ {A = Result ℕ Refusal} (Ok (length_of (kind_of m.body))) (Ok k) = ap (λ (w : Wrote). w.answer) (wrote-ok n s c out m p long r) ∙ e in
        let count : length_of (kind_of m.body) ≡ k = ap writing_count a in
        let sizes = (and-true (copies_ok n && numbers_ok s) (copy_ok n c) p).0 in
        let there : setup_ok n s m.to ≡ true = rw (sizes, (clauses-of n s m.to m r).to) in
        rw (← count) (write-then-read n s c out m f p there long r)

-- Accepted bytes write back equal: the message that the reader hands back is written as the bytes that were read.
pub accepted-writes-back : (n s c : ℕ) (b : List ℕ) → ((i : ℕ) → get_or b i 0 < 256) → valid_bytes n s c b ≡ true → message_bytes (message_at b) ≡ b
unfolding valid_bytes
accepted-writes-back n s c b byte h =
    let p = and-true (framed b && op_fits b) (valid n s c (message_at b)) h in
    let q = and-true (framed b) (op_fits b) p.0 in
    message_bytes-message_at b byte (framed_is b q.0) q.1

read-then-write : (n s c d : ℕ) (b out : List ℕ) → ((i : ℕ) → get_or b i 0 < 256) → setup_ok n s d ≡ true → 256 ≤ length out → valid_bytes n s c b ≡ true
    → wrote n s d out (message_at b) ≡ record { answer = Ok (length b); out = splice out 0 b }
unfolding valid_bytes
read-then-write n s c d b out byte p r h =
    let e : message_bytes (message_at b) ≡ b = accepted-writes-back n s c b byte h in
    let v : valid n s c (message_at b) ≡ true = (and-true (framed b && op_fits b) _ h).1 in
    let t : (message_at b).to ≡ c = valid-here n s c (message_at b) v in
    let u : valid n s (message_at b).to (message_at b) ≡ true = ap (λ (x : ℕ). valid n s x (message_at b)) t ∙ v in
    let l : length_of (kind_of (message_at b).body) ≡ length b = sym (length-message_bytes (message_at b)) ∙ ap length e in
    sym (wrote-ok n s d out (message_at b) p r u)
    ∙ ap₂ (λ (k : ℕ) (x : List ℕ). record { answer = Ok k; out = splice out 0 x }) l e

-- The same of the calls: what the reader hands back where it answers that it is valid, the writer takes, counts as many bytes as were
-- read, and writes them.
pub read-written : (n s c d : ℕ) (b out : List ℕ) → ((i : ℕ) → get_or b i 0 < 256) → setup_ok n s d ≡ true → 256 ≤ length out → (m : Message) → read_message n s c b ≡ Ok m
    → wrote n s d out m ≡ record { answer = Ok (length b); out = splice out 0 b }
read-written n s c d b out byte p r m e = go (setup_ok n s c) refl (valid_bytes n s c b) refl
  where
    refused : {A : Type 0} (r : Refusal) → read_message n s c b ≡ Err r → A
    refused r h =
        let x : ◌≡◌ {A = Result Message Refusal} (Err r) (Ok m) = sym h ∙ e in
        let z : ◌≡◌ {A = ℕ} 0 1 = cc in
        absurd (omega arith)

    go : (a : Bool) → setup_ok n s c ≡ a → (v : Bool) → valid_bytes n s c b ≡ v
        → wrote n s d out m ≡ record { answer = Ok (length b); out = splice out 0 b }
    go false q v h = refused why.Setup (read_is n s c b ∙ rw q)
    go true q false h = refused (why_read n s c b) (read_is n s c b ∙ rw (q, h))
    go true q true h =
        let x : ◌≡◌ {A = Result Message Refusal} (Ok (message_at b)) (Ok m) = sym (read_is n s c b ∙ rw (q, h)) ∙ e in
        let y : message_at b ≡ m = cc in
        rw (← y) (read-then-write n s c d b out byte p r h)

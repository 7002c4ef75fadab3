-- Pieces that are found and logged one after the other.
use Rattle.std.proofs.Common.{◌≡◌, ℕ, zero, suc, ℤ, true, false, List, [], ◌∷◌, ◌++◌, length, Option, None, Some, refl, sym, ap, subst, ◌∙◌, arith, append_assoc}
use Rattle.std.specs.Io.KnownBytes.{Consumes, IsAtEnd}
use Rattle.std.proofs.lemmas.List.{append-nil}
use Rattle.alog_lines.proofs.SharedCutting.{begins, ends_whole, reads_on, takes_on}
use Rattle.alog_lines.specs.Cutting.{Cutting, HasCut, IsSame as IsSameCut, LacksPiece, Reads}
use Rattle.alog_lines.specs.Lines.{IsUnbroken}
use Rattle.alog_lines.specs.Pieces.{Piece}
use Rattle.alog_pipe.specs.Counted.{counted, with_piece}
use Rattle.alog_pipe.specs.InTurn.{InTurn}
use Rattle.alog_pipe.proofs.Logging.{piece_logger, tries_logger}
use Rattle.alog_pipe.specs.Logged.{LogsPiece}
use Rattle.alog_pipe.specs.Piped.{LogsAll, LogsAt, LogsNext, Pumps, PumpsRead, Rests, TakesAll, TriesToTell}
use Rattle.alog_pipe.specs.declared.counts.Counts.{Counts}
use Rattle.alog_pipe.specs.declared.piece_log.PieceLog.{PieceLog}
use Rattle.alog_pipe.specs.declared.pump.Pump.{Pump}

-- one more
pub one_more : {A S : Type 0} (step : A → S → S → Type 0) (xs : List A) (x : A) (s m t : S) → InTurn step xs s m → step x m t
    → InTurn step (xs ++ x ∷ []) s t
one_more {A} {S} step [] x s m t all last = (t, subst (λ (o : S). step x o t) all last, refl)
one_more step (y ∷ xs) x s m t all last = (all.0, all.1, one_more step xs x all.0 m t all.2 last)

-- a piece that was logged
pub logged_as : {a time : ℤ} {s t : List ℕ} {old new : PieceLog} → a ≡ time → s ≡ t → LogsPiece a s old new → LogsPiece time t old new
logged_as {old} {new} then same l = subst (λ (x : ℤ × List ℕ). LogsPiece x.0 x.1 old new) (λ i. (then i, same i)) l

-- what was logged at one time was logged at some time, behind no rest
logs_each : (time : ℤ) (ps : List Piece) (old new : PieceLog) → LogsAt time ps old new → InTurn LogsNext ps old new
logs_each time [] old new same = same
logs_each time (p ∷ ps) old new all = (all.0, (old, (0, refl), (time, all.1)), logs_each time ps all.0 new all.2)

pub counted_more : (ps : List Piece) (p : Piece) (c : Counts) → counted (ps ++ p ∷ []) c ≡ with_piece (counted ps c) p
counted_more [] p c = refl
counted_more (q ∷ ps) p c = counted_more ps p (with_piece c q)

pub counted_all : (ps qs : List Piece) (c : Counts) → counted (ps ++ qs) c ≡ counted qs (counted ps c)
counted_all [] qs c = refl
counted_all (p ∷ ps) qs c = counted_all ps qs (with_piece c p)

-- what follows what was done
pub turns_on : {A S : Type 0} (step : A → S → S → Type 0) (xs ys : List A) (s m t : S) → InTurn step xs s m → InTurn step ys m t
    → InTurn step (xs ++ ys) s t
turns_on {A} {S} step [] ys s m t same rest = subst (λ (o : S). InTurn step ys o t) same rest
turns_on step (x ∷ xs) ys s m t all rest = (all.0, all.1, turns_on step xs ys all.0 m t all.2 rest)

-- nothing was logged
pub logs_none : (log : PieceLog) → LogsAll [] log log
logs_none log = record { mid = log; pieces = refl; rests = 0; rested = refl }

-- behind what was logged so far more was logged, at one time; or there was one rest more
logs_more : (time : ℤ) (ps qs : List Piece) (old mid new : PieceLog) → LogsAll ps old mid → LogsAt time qs mid new → LogsAll (ps ++ qs) old new
logs_more time ps [] old mid new l same =
    subst (λ (v : List Piece × PieceLog). LogsAll v.0 old v.1) (λ i. (sym (append-nil ps) i, sym same i)) l
logs_more time ps (q ∷ qs) old mid new l all = record {
  mid = new;
  pieces = subst (λ (rs : List Piece). InTurn LogsNext rs old new) (append_assoc ps (q ∷ []) qs)
      (turns_on LogsNext (ps ++ q ∷ []) qs old all.0 new
      (one_more LogsNext ps q old l.mid all.0 l.pieces (mid, (l.rests, l.rested), (time, all.1))) (logs_each time qs all.0 new all.2));
  rests = 0;
  rested = refl;
}

rests_more : {ps : List Piece} {old mid new : PieceLog} (time : ℤ) → LogsAll ps old mid → TriesToTell time mid new → LogsAll ps old new
rests_more {mid = mid} time l tries = record {
  mid = l.mid;
  pieces = l.pieces;
  rests = suc l.rests;
  rested = (mid, l.rested, (time, tries));
}

-- the pieces that were taken follow those before
pub takes_all : {limit : ℕ} {bytes : List ℕ} {before : List Piece} (ps : List Piece) (old new : Cutting) → HasCut limit bytes before old
    → TakesAll ps old new → HasCut limit bytes (before ++ ps) new
takes_all {limit} {bytes} {before} [] old new h same =
    subst (λ (l : List Piece). HasCut limit bytes l new) (sym (append-nil before))
    (subst (λ (s : Cutting). HasCut limit bytes before s) (sym same) h)
takes_all {limit} {bytes} {before} (p ∷ ps) old new h all =
    subst (λ (l : List Piece). HasCut limit bytes l new) (append_assoc before (p ∷ []) ps)
    (takes_all ps all.0 new (takes_on h all.1.0 all.1.1) all.2)

-- the limit stays, and the reader is no nearer to its end
pub takes_same : (ps : List Piece) (old new : Cutting) → TakesAll ps old new → IsSameCut old new
takes_same [] old new same = (ap (λ (s : Cutting). s.limit) same, ap (λ (s : Cutting). s.ended) same)
takes_same (p ∷ ps) old new all =
    let rest = takes_same ps all.0 new all.2 in (rest.0 ∙ all.1.1.0, rest.1 ∙ all.1.1.1)

-- what was read at first, and then
pub consumes_on : (a b c : Option (List ℕ)) (xs ys : List ℕ) → Consumes a b xs → Consumes b c ys → Consumes a c (xs ++ ys)
consumes_on None b c xs ys first then = tt
consumes_on (Some x) None c xs ys first then = absurd first
consumes_on (Some x) (Some y) None xs ys first then = absurd then
consumes_on (Some x) (Some y) (Some z) xs ys first then = first ∙ ap (λ t. xs ++ t) then ∙ sym (append_assoc xs ys z)

nothing_taken : (known : Option (List ℕ)) → Consumes known known []
nothing_taken None = tt
nothing_taken (Some x) = refl

-- the logger stays
pub logs_logger : (time : ℤ) (ps : List Piece) (old new : PieceLog) → LogsAt time ps old new → new.logger ≡ old.logger
logs_logger time [] old new same = ap (λ (l : PieceLog). l.logger) same
logs_logger time (p ∷ ps) old new all = logs_logger time ps all.0 new all.2 ∙ piece_logger all.1.logged

rests_logger : (n : ℕ) (old new : PieceLog) → Rests n old new → new.logger ≡ old.logger
rests_logger zero old new same = ap (λ (l : PieceLog). l.logger) same
rests_logger (suc n) old new all = tries_logger all.2.1 ∙ rests_logger n old all.0 all.1

next_logger : (ps : List Piece) (old new : PieceLog) → InTurn LogsNext ps old new → new.logger ≡ old.logger
next_logger [] old new same = ap (λ (l : PieceLog). l.logger) same
next_logger (p ∷ ps) old new all =
    let next = all.1 in
    next_logger ps all.0 new all.2 ∙ piece_logger next.2.1.logged ∙ rests_logger next.1.0 old next.0 next.1.1

pub all_logger : {ps : List Piece} {old new : PieceLog} → LogsAll ps old new → new.logger ≡ old.logger
all_logger {ps} {old} {new} l = rests_logger l.rests l.mid new l.rested ∙ next_logger ps old l.mid l.pieces

-- where nothing came, no piece is left
pub lacks_on : {old new : Cutting} → LacksPiece old → new.pending ≡ old.pending → new.limit ≡ old.limit → new.ended ≡ false → LacksPiece new
lacks_on {old} {new} h pending limit ended =
    let few = h.few in
    let size = ap length pending in
    record {
      unbroken = subst IsUnbroken (sym pending) h.unbroken;
      few = omega (arith, few, size, limit);
      none = λ e. let wrong : false ≡ true = sym ended ∙ e in absurd (cc wrong);
    }

-- What a pump has done: the reader gave some bytes, and what was logged are the pieces that were found of them.
pub record HasPumped (limit : ℕ) (before after : Option (List ℕ)) (old new : Pump) : Type 0 where
  pub bytes : List ℕ
  pub taken : Consumes before after bytes
  pub pieces : List Piece
  pub logged : LogsAll pieces old.log new.log
  pub found : HasCut limit bytes pieces new.lines
  pub left : LacksPiece new.lines
  pub counted_is : new.counts ≡ counted pieces old.counts

module _ {limit : ℕ} {before after last : Option (List ℕ)} {old mid : Pump} (h : HasPumped limit before after old mid) (new : Pump)
    (read : Reads after last mid.lines new.lines) (reading : mid.lines.ended ≡ false) (same : (new.log ≡ mid.log) × (new.counts ≡ mid.counts)) where
  stays : mid.lines.ended ≡ true → new.lines ≡ mid.lines
  stays e = let wrong : false ≡ true = sym reading ∙ e in absurd (cc wrong)

  logged_so : LogsAll h.pieces old.log new.log
  logged_so = subst (λ (l : PieceLog). LogsAll h.pieces old.log l) (sym same.0) h.logged

  counted_so : new.counts ≡ counted h.pieces old.counts
  counted_so = same.1 ∙ h.counted_is

  -- a read brought nothing
  pub nothing_came : new.lines.pending ≡ mid.lines.pending → new.lines.ended ≡ false → HasPumped limit before last old new
  nothing_came pending ended = record {
    bytes = h.bytes ++ read.came.bytes;
    taken = consumes_on before after last h.bytes read.came.bytes h.taken read.came.taken;
    pieces = h.pieces;
    logged = logged_so;
    found = reads_on h.found read stays;
    left = lacks_on h.left pending read.limit ended;
    counted_is = counted_so;
  }

  -- what a read brought was logged
  pub some_came : {end : Pump} → PumpsRead new end → HasPumped limit before last old end
  some_came {end} p = record {
    bytes = h.bytes ++ read.came.bytes;
    taken = consumes_on before after last h.bytes read.came.bytes h.taken read.came.taken;
    pieces = h.pieces ++ p.pieces;
    logged = logs_more end.time h.pieces p.pieces old.log new.log end.log logged_so p.logged;
    found = takes_all p.pieces new.lines end.lines (reads_on h.found read stays) p.taken;
    left = p.left;
    counted_is = p.counted_is ∙ ap (counted p.pieces) counted_so ∙ sym (counted_all h.pieces p.pieces old.counts);
  }

-- a rest
pub rested_on : {limit : ℕ} {before after : Option (List ℕ)} {old mid new : Pump} (time : ℤ) → HasPumped limit before after old mid
    → TriesToTell time mid.log new.log → (new.lines ≡ mid.lines) × (new.counts ≡ mid.counts) → HasPumped limit before after old new
rested_on {limit} time h tries same = record {
  bytes = h.bytes;
  taken = h.taken;
  pieces = h.pieces;
  logged = rests_more time h.logged tries;
  found = subst (λ (s : Cutting). HasCut limit h.bytes h.pieces s) (sym same.0) h.found;
  left = subst LacksPiece (sym same.0) h.left;
  counted_is = same.1 ∙ h.counted_is;
}

-- nothing was read
pub starts : (limit : ℕ) (before : Option (List ℕ)) (p : Pump) → p.lines.limit ≡ limit → p.lines.pending ≡ [] → p.lines.ended ≡ false
    → HasPumped limit before before p p
starts limit before p same none reading = record {
  bytes = [];
  taken = nothing_taken before;
  pieces = [];
  logged = logs_none p.log;
  found = begins limit p.lines same none;
  left = record {
    unbroken = subst IsUnbroken (sym none) tt;
    few = (let size = ap length none in omega (arith, size));
    none = λ e. none;
  };
  counted_is = refl;
}

-- where the reader is at its end, it is all of what it gave
pub at_end : {limit : ℕ} {before after : Option (List ℕ)} {old new : Pump} → HasPumped limit before after old new → new.lines.ended ≡ true
    → IsAtEnd after → Pumps limit before after true old new
at_end h ended end = record {
  bytes = h.bytes;
  taken = h.taken;
  pieces = h.pieces;
  logged = h.logged;
  found = h.found;
  left = h.left;
  end = λ _. (end, ends_whole h.found h.left ended);
  counted_is = h.counted_is;
}

-- and else a front
pub not_at_end : {limit : ℕ} {before after : Option (List ℕ)} {old new : Pump} → HasPumped limit before after old new
    → Pumps limit before after false old new
not_at_end h = record {
  bytes = h.bytes;
  taken = h.taken;
  pieces = h.pieces;
  logged = h.logged;
  found = h.found;
  left = h.left;
  end = λ e. let wrong : false ≡ true = e in absurd (cc wrong);
  counted_is = h.counted_is;
}

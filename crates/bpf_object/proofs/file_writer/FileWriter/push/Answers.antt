use Rattle.std.proofs.Common.{◌≡◌, ℕ, ◌+◌, ◌++◌, length, sym, refl, ap, ◌∙◌, subst, arith}
use Rattle.bpf_object.specs.private.Fields.{encode}
use Rattle.bpf_object.specs.private.FileOf.{section_fields}
use Rattle.bpf_object.specs.private.FileWriter.{FileSoFar, Holds, section_of}
use Rattle.bpf_object.proofs.FileWriterLemmas.{holds_more}
use Rattle.bpf_object.proofs.file_writer.FileWriter.push.Goals as goal

pub returns : goal.returns
returns g c limit ss h =
    let s = c.self.inside in
    let x = section_of c.args.section.now c.args.content.now in
    let old : FileSoFar = record { order = s.order; limit = s.limit; out = s.out.items; headers = s.headers.items; count = s.count } in
    let new : FileSoFar = record { order = s.order; limit = s.limit; out = c.push_content.new.out.items; headers = c.push_header.new.out.items; count = s.count + 1 } in
    let place : c.len-offset.result ≡ length s.out.items = omega (arith, c.len-offset.ensures) in (
      holds_more limit ss old new x (subst (Holds limit ss) (sym c.self.view_is) h) refl refl c.in_ok-push_content.ensures.value
          (c.in_ok-push_header.ensures c.args.content.now ∙ ap (λ (n : ℕ). s.headers.items ++ encode s.order (section_fields x n)) place) refl,
      ap (λ (o : FileSoFar). o.order) c.self.view_is,
    )

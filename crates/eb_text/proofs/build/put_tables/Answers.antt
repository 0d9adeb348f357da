use Rattle.std.proofs.Common.{ℕ, List, refl, ap, arith}
use Rattle.sdb_build.specs.declared.image.Image.{Image}
use Rattle.eb_io.proofs.PageLemmas.{paging_none, paging_item, wrong_paging_item}
use Rattle.eb_text.specs.Build.{table_text, build_text}
use Rattle.eb_text.proofs.build.put_tables.Goals as goal

pub loop-image-init : goal.loop-image-init
loop-image-init g c = paging_none g.K.Sink.writing g.K.Sink.beside_writes c.args.sink.now c.args.page.now (build_text c.args.images.now)

pub returns-in_err-put_table : goal.returns-in_err-put_table
returns-in_err-put_table g c = record {
  paged = wrong_paging_item g.K.Sink.writing g.K.Sink.beside_writes (λ (image : Image). table_text image.at image.octets) build_text (λ image images. refl) _ _ _ c.args.page.now _ _ c.args.images.now
      c.loop-image.image-index c.image-item.result _ _ _ c.from_residual.ensures.0 (omega arith) c.image-item.is
      (ap (λ (octets : List ℕ). table_text c.image-item.result.at octets) c.as_slice.ensures.items) c.loop-image.invariant c.in_err-put_table.ensures.paged;
}

pub loop-image-preserved : goal.loop-image-preserved
loop-image-preserved g c =
    paging_item g.K.Sink.writing g.K.Sink.beside_writes (λ (image : Image). table_text image.at image.octets) build_text (λ image images. refl) _ _ _ c.args.page.now _ _ c.args.images.now
    c.loop-image.image-index c.image-item.result _ (omega arith) c.image-item.is
    (ap (λ (octets : List ℕ). table_text c.image-item.result.at octets) c.as_slice.ensures.items) c.loop-image.invariant c.in_ok-put_table.ensures.paged

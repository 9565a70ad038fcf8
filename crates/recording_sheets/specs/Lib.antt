pub mod SheetFile
